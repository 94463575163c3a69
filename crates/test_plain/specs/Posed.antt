-- When an expression has a value at the lists of a table.
use Rattle.std.specs.Prelude.{◌≡◌, ◌≤◌, ℕ, List, length}
use Rattle.ranked_list.specs.declared.row.Row.{Row}
use Rattle.ranked_list.specs.Table.{IsTable}
use Rattle.monotone_fn.specs.Tree.{Tree}
use Rattle.monotone_fn.specs.Shape.{list_count}
use Rattle.topk_base.specs.declared.TheConstants.{MAX_LISTS}

-- the lists are a table, at most eight of them, and as many as the expression has
pub record IsPosed (D : List (List Row)) (expr : Tree) : Type 0 where
  pub table : (n : ℕ) × IsTable n D
  pub lists : length D ≡ list_count expr
  pub few : length D ≤ MAX_LISTS

-- the row that is read past the end of a list
abbrev pub no_row : Row
no_row = record { object = 0; grade = 0 }
