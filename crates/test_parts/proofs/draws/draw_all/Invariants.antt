use Rattle.std.proofs.Common.{◌≡◌}
use Rattle.test_parts.proofs.draws.draw_all.Given as goal

abbrev pub invariant-loop : goal.invariant-loop
invariant-loop l = (l.pass.0 ≡ l.tickets) × (l.pass.1.parts ≡ l.fn.pass.1.parts)
