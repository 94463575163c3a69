use Rattle.std.proofs.Common.{◌≡◌}
use Rattle.test_parts.proofs.drives.count_often.Given as goal

abbrev pub invariant-loop : goal.invariant-loop
invariant-loop g l = l.pass ≡ l.initial.pass
