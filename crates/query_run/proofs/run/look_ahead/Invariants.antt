use Rattle.source_pool.specs.Passes.{IsPassOf}
use Rattle.query_run.specs.Looking.{LooksAhead}
use Rattle.query_run.specs.Prefetching.{HasPrefetchedBelow}
use Rattle.query_run.proofs.run.look_ahead.Given as goal

-- the pass is the pool's own, and the query did nothing but look ahead through it, of each list that was gone through but the needed one
abbrev pub invariant-loop-list : goal.invariant-loop-list
invariant-loop-list g l = record {
  own : IsPassOf l.pool l.pass;
  ahead : LooksAhead l.fn.pass l.pass l.query;
  asked : HasPrefetchedBelow (λ source answer. goal.G-post g l.far source answer) l.query l.list l.needed l.fn.pass l.pass;
}
