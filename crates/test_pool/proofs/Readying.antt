-- A query may run over the pool of two sources that was opened.
use Rattle.std.proofs.Common.{◌∷◌, [], ℕ}
use Rattle.query_core.specs.declared.ready.Ready.{Ready}
use Rattle.query_run.specs.Made.{IsReadyFor}
use Rattle.query_run.proofs.Opening.{opened_rests, opened_sources}
use Rattle.test_query_support.specs.declared.pair.Pair.{Pair}
use Rattle.test_query_support.specs.Pairs.{IsPair}
use Rattle.test_pool.specs.Running.{MayRun}

pub may_run : (count : ℕ) (pair : Pair) (ready : Ready) → IsPair count pair → IsReadyFor (count ∷ count ∷ []) ready → MayRun pair.pool pair.pass ready
may_run count pair ready is for = record {
  is = for.is;
  own = is.opened.pass;
  rests = opened_rests (count ∷ count ∷ []) pair.pool pair.pass is.feeds is.opened;
  sources = opened_sources (count ∷ count ∷ []) pair.pool pair.pass is.feeds ready is.opened for;
}
