use Rattle.test_pool.specs.Reading.{IsReader}
use Rattle.test_pool.proofs.sides.read_side.Given as goal

abbrev pub invariant-loop-place : goal.invariant-loop-place
invariant-loop-place g l = IsReader l.pool l.count l.pass
