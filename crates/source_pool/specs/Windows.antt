-- Rows of a source that a pass copied in one turn.
use Rattle.std.specs.Prelude.{◌≡◌, ◌≤◌, ◌-◌, ℕ, Option, Some, None, List, [], take, drop, slice_get, nat_lt, if◌then◌else◌}
use Rattle.topk_base.specs.declared.TheConstants.{MAX_OBJECTS}
use Rattle.ranked_list.specs.declared.row.Row.{Row}
use Rattle.ranked_list.specs.declared.need.Need.{Need}
use Rattle.ranked_list.specs.declared.need.Need.TheVariants as need
use Rattle.source_state.specs.declared.look.Look.{Look}
use Rattle.source_state.specs.declared.look.Look.TheVariants as look

-- how many rows a window has at most
abbrev pub most_rows : ℕ
most_rows = 256

-- rows one after another, the first of them at a depth; depths count from 1
pub record RowsFrom : Type 0 where
  pub first : ℕ
  pub rows : List Row

-- no rows
abbrev pub no_rows : RowsFrom
no_rows = record { first = 1; rows = [] }

-- the row at a depth and the row that is needed, None where it isn't among them
abbrev pub held_at : RowsFrom → ℕ → Option Row
held_at window depth = if nat_lt depth window.first then None else slice_get window.rows (depth - window.first)

abbrev pub row_held : RowsFrom → Need → Option Row
row_held window (need.Row list depth) = held_at window depth
row_held window (need.Grade list object) = None
row_held window need.Done = None

-- the rows of a list from a depth on, as many as there are or as a window has
abbrev pub rows_from : List Row → ℕ → RowsFrom
rows_from rows depth = record { first = depth; rows = take most_rows (drop (depth - 1) rows) }

-- the rows from a needed row on; the window after a turn has them where a row is the answer, else it is as it was
abbrev pub filled : Need → List Row → RowsFrom → RowsFrom
filled (need.Row list depth) rows window = rows_from rows depth
filled (need.Grade list object) rows window = window
filled need.Done rows window = window

abbrev pub window_after : Look → Need → List Row → RowsFrom → RowsFrom
window_after (look.Row row) n rows window = filled n rows window
window_after (look.Grade grade) n rows window = window
window_after look.NotYet n rows window = window
window_after (look.Fault fault) n rows window = window

-- a needed row is at a depth that a list may have
abbrev pub IsInReach : Need → Type 0
IsInReach (need.Row list depth) = (1 ≤ depth) × (depth ≤ MAX_OBJECTS)
IsInReach _ = Unit {0}

-- each row of a window is the row of a list at its depth
pub record IsWindowOf (rows : List Row) (window : RowsFrom) : Type 0 where
  pub there : (depth : ℕ) (row : Row) → held_at window depth ≡ Some row → slice_get rows (depth - 1) ≡ Some row
