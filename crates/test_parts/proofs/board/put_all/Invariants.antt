use Rattle.std.proofs.Common.{◌≡◌, ◌≤◌, length}
use Rattle.test_parts.proofs.board.put_all.Given as goal

abbrev pub invariant-loop-object : goal.invariant-loop-object
invariant-loop-object l = (l.board.room ≡ 4) × (length l.board.items ≤ l.object-index)
