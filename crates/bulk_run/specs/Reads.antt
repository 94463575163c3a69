-- What made queries read of the lists of their table.
use Rattle.std.specs.Prelude.{◌≤◌, ◌<◌, ℕ, List, length, map}
use Rattle.std.specs.List.{range_with_len, slice_index_or}
use Rattle.topk_theory.specs.Transcript.{list_numbers}
use Rattle.source_state.specs.Looking.{reach_of}
use Rattle.query_core.specs.OneAnswer.{one_run}
use Rattle.fetcher.specs.declared.slot.Slot.{Slot}
use Rattle.topk_base.specs.declared.settings.Settings.{Settings}
use Rattle.batch_result.specs.Account.{Reading, deepest, random_accesses}
use Rattle.bulk_run.specs.declared.input.BulkInput.{BulkInput}
use Rattle.bulk_run.specs.Held.{Held}
use Rattle.bulk_run.specs.Sums.{query_of, table_of}

-- the one run of the query with a number over the table; the one runs of all of them
abbrev pub made_reading : BulkInput → ℕ → Reading
made_reading input number = record { sources = list_numbers input.lists; accesses = one_run (query_of input number) (table_of input) }

abbrev pub made_readings : BulkInput → List Reading
made_readings input = map (made_reading input) (range_with_len 0 input.queries)

-- a list of the table gave no row beyond the reach of the greatest depth to which the one run of a query reads it, and no more grades than these runs make random
-- accesses to it
pub record IsReadSparingly (input : BulkInput) (settings : Settings) (list : ℕ) (held : Held) : Type 0 where
  pub rows : held.rows_given ≤ reach_of (deepest list (made_readings input)) settings.page settings.ahead input.count
  pub grades : held.grades_given ≤ random_accesses list (made_readings input)

-- so it is of the source in each slot
abbrev pub AreReadSparingly : BulkInput → Settings → List (Slot Held) → Type 0
AreReadSparingly input settings slots =
    (list : ℕ) (d : Slot Held) → list < length slots → IsReadSparingly input settings list (slice_index_or slots list d).source
