use Rattle.std.proofs.Common.{◌≡◌}
use Rattle.source_pool.specs.Passes.{IsPassOf}
use Rattle.query_run.specs.Looking.{HasLooked}
use Rattle.query_run.proofs.run.look_on.Given as goal

-- the pass is the pool's own, and the query did nothing but look through it
abbrev pub invariant-loop : goal.invariant-loop
invariant-loop g l = record {
  own : IsPassOf l.pool l.pass;
  by : l.by ≡ l.fn.by;
  looked : HasLooked l.fn.pass l.pass l.fn.query l.query;
}
