use Rattle.source_pool.specs.Passes.{IsIdleOf}
use Rattle.test_query_support.proofs.beside.fetch_till_set.Given as goal

abbrev pub invariant-loop : goal.invariant-loop
invariant-loop g l = IsIdleOf l.pool l.feeder
