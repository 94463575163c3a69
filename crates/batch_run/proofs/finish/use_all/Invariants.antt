use Rattle.std.proofs.Common.{◌≡◌, ◌≤◌, ◌<◌, ℕ, length, vec_len, vec_capacity}
use Rattle.source_state.specs.State.{state_at}
use Rattle.batch_run.specs.Slots.{states_of, slot_at}
use Rattle.batch_result.specs.Batches.{use_at}
use Rattle.batch_run.specs.Finishing.{UsedOf}
use Rattle.batch_run.proofs.finish.use_all.Given as goal

abbrev pub invariant-loop-source : goal.invariant-loop-source
invariant-loop-source g l = record {
  filled : vec_len l.uses ≡ l.source;
  each : (source : ℕ) → source < l.source
      → UsedOf (state_at l.states source) (slot_at (states_of g.S.Source.list g.S.Source.counts g.S.Source.calls g.S.Source.at_hand l.slots) source).fetched (use_at l.uses.items source);
  room : length l.slots ≤ vec_capacity l.uses;
}
