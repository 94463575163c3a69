-- What a source in memory is.
use Rattle.std.specs.Prelude.{ℕ, List, Option}
use Rattle.ranked_list.specs.declared.row.Row.{Row}
use Rattle.source_api.specs.declared.counts.Counts.{Counts}
use Rattle.test_mem_source.specs.Editions.{Edition}

-- the rows, the number that is stated if any, the version that is stated, what it changes to later, the numbers of the calls that fail and that
-- garble, the lies about objects, how many calls for pages, for grades and in all there were, the version at hand, and what was counted
pub record Stored : Type 0 where
  pub rows : List Row
  pub stated : Option ℕ
  pub stated_version : ℕ
  pub later : List Edition
  pub fail_pages : List ℕ
  pub garble_pages : List ℕ
  pub fail_grades : List ℕ
  pub garble_grades : List ℕ
  pub lies : List Row
  pub page_calls : ℕ
  pub grade_calls : ℕ
  pub calls : ℕ
  pub version : ℕ
  pub counts : Counts
