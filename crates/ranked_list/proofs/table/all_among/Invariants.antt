use Rattle.std.proofs.Common.{◌≡◌, ℕ, take, true}
use Rattle.std.specs.Prelude.{nat_eq}
use Rattle.std.specs.Set.{is_member}
use Rattle.std.specs.HashSet.{contains}
use Rattle.ranked_list.specs.Table.{objects}
use Rattle.ranked_list.proofs.table.all_among.Given as goal

abbrev pub invariant-loop-place : goal.invariant-loop-place
invariant-loop-place l = (object : ℕ) → is_member nat_eq (objects (take l.place l.rows)) object ≡ true → contains nat_eq l.set object ≡ true
