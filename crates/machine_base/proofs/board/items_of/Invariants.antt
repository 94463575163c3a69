use Rattle.std.proofs.Common.{◌≡◌, take}
use Rattle.machine_base.specs.Kept.{items_in}
use Rattle.machine_base.proofs.board.items_of.Given as goal

abbrev pub invariant-loop-place : goal.invariant-loop-place
invariant-loop-place l = l.items.items ≡ items_in (take l.place l.top)
