use Rattle.std.specs.Prelude.{◌≡◌, ◌≤◌, length, vec_len, vec_capacity}
use Rattle.page_json.specs.Going.{AreRead}
use Rattle.page_json.proofs.page.rows_in.Given as goal

abbrev pub invariant-loop-value : goal.invariant-loop-value
invariant-loop-value l = (vec_len l.rows ≡ l.value-index) × (length l.list ≤ vec_capacity l.rows) × AreRead l.rows.items l.list l.value-index
