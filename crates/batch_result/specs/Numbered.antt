-- What is known of the sources of a batch, by their numbers.
use Rattle.std.specs.Prelude.{ℕ, Option, None, List}
use Rattle.std.specs.List.{slice_index_or}
use Rattle.ranked_list.specs.declared.row.Row.{Row}
use Rattle.source_api.specs.declared.counts.Counts.{Counts}
use Rattle.source_api.specs.Counting.{no_counts}
use Rattle.source_api.specs.Calls.{Call}

-- the list that a source tells, by its number, if it tells one
abbrev pub told_at : List (Option (List Row)) → ℕ → Option (List Row)
told_at told source = slice_index_or told source None

-- the version of a source that is at hand, by its number
abbrev pub version_at : List ℕ → ℕ → ℕ
version_at versions source = slice_index_or versions source 0

-- the counts of the source of a number
abbrev pub counts_at : List Counts → ℕ → Counts
counts_at counts source = slice_index_or counts source no_counts

-- the calls that were made of a source, by its number, where it tells them
abbrev pub calls_at : List (Option (List Call)) → ℕ → Option (List Call)
calls_at calls source = slice_index_or calls source None
