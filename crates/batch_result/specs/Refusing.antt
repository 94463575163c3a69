-- What a query's own turns show of why it is refused.
use Rattle.std.specs.Prelude.{◌<◌, List, length}
use Rattle.turn_lock.specs.Facts.{AtMost, IsFrontOf}
use Rattle.source_pool.specs.declared.hold.Hold.{Hold}
use Rattle.source_pool.specs.Passes.{hold_at}
use Rattle.source_state.specs.State.{State, state_at}
use Rattle.query_run.specs.declared.running_query.RunningQuery.{RunningQuery}
use Rattle.query_run.specs.Inquiries.{source_needed}
use Rattle.query_run.specs.Failing.{LookRefused}

-- a query is refused as turns of a pass refuse it. For a call that failed or was garbled one of these turns called for its need, and the pass saw later that
-- more such calls had come since, after all that it knew of first. What the pass saw at the end is how the closing log of the source begins. Which pass
-- it was is free here: that it was the query's own is a clause of the one that ran it
pub record IsRefusedByTurns (states : List State) (q : RunningQuery) : Type 0 where
  pub before : List Hold
  pub after : List Hold
  pub why : LookRefused q before after q.refusal
  pub later : AtMost (hold_at before (source_needed q)).pass.1.tally q.waiting.noted
  pub seen : source_needed q < length states → IsFrontOf (hold_at after (source_needed q)).pass.1.seen (state_at states (source_needed q)).log
  pub tally : source_needed q < length states → AtMost (hold_at after (source_needed q)).pass.1.tally (state_at states (source_needed q)).tally
