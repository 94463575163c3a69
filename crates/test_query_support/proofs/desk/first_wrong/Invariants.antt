use Rattle.test_query_support.specs.Ready.{IsReady}
use Rattle.test_query_support.proofs.desk.first_wrong.Given as goal

abbrev pub invariant-loop-place : goal.invariant-loop-place
invariant-loop-place g l = IsReady l.desk
