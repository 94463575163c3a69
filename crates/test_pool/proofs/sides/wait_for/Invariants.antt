use Rattle.test_pool.specs.Reading.{IsReader}
use Rattle.test_pool.proofs.sides.wait_for.Given as goal

abbrev pub invariant-loop : goal.invariant-loop
invariant-loop g l = IsReader l.pool l.count l.pass
