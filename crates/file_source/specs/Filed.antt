-- What a source over a list file is.
use Rattle.std.specs.Prelude.{◌≡◌, ℕ, Bool, List, Option, IfSome}
use Rattle.std.specs.List.{list_any}
use Rattle.std.specs.Option.{is_none}
use Rattle.containers.specs.Values.{Values, value_of}
use Rattle.ranked_list.specs.declared.row.Row.{Row}
use Rattle.source_api.specs.declared.counts.Counts.{Counts}
use Rattle.source_api.specs.Told.{first_grade}
use Rattle.file_source.specs.ListFile.{rows_among}

-- the records, each as its row or None, and what was counted
pub record Filed : Type 0 where
  pub records : List (Option Row)
  pub counts : Counts

-- the grades by object, once they are kept, are those of the first rows, and it is known whether some record is no row
pub record IsIndexed (records : List (Option Row)) (index : Option (Values ℕ)) (some_broken : Bool) : Type 0 where
  pub grades : IfSome index (λ kept. (object : ℕ) → value_of kept object ≡ first_grade (rows_among records) object)
  pub broken : some_broken ≡ list_any is_none records
