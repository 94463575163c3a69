-- What is fetched until the pool closes is called for.
use Rattle.std.proofs.Common.{◌≡◌, ◌≤◌, ℕ, length, sym, ap, subst}
use Rattle.turn_lock.specs.declared.known.Known.{Known}
use Rattle.source_state.specs.declared.entry.LogEntry.{LogEntry}
use Rattle.source_state.specs.Log.{rows_in}
use Rattle.source_state.specs.State.{State}
use Rattle.source_state.specs.Looking.{reach_of, state_reach}
use Rattle.source_api.specs.declared.counts.Counts.{Counts}
use Rattle.source_pool.specs.Closed.{IsClosed}
use Rattle.fetcher.specs.declared.turned.Fetched.{Fetched}
use Rattle.fetcher.specs.Metering.{IsMetered, IsCalledFor}
use Rattle.fetcher.proofs.ReachLaws.{reach_more}
use Rattle.fetcher.proofs.MeterLaws.{max_on, asked_on}

-- what the feeder saw of the want is within the state's
closed_reach : (page ahead : ℕ) (after pass : Known LogEntry) (state : State) → 1 ≤ page → IsClosed after pass state
    → reach_of after.sight.mark page ahead after.name.1 ≤ state_reach state page ahead
closed_reach page ahead after pass state some closed =
    let count : after.name.1 ≡ state.count = ap (λ (p : ℕ × ℕ). p.1) (sym closed.name) in
    subst (λ (n : ℕ). reach_of after.sight.mark page ahead after.name.1 ≤ reach_of state.want page ahead n) count
    (reach_more page ahead after.name.1 after.sight.mark state.want some closed.sight)

pub called_for : (page ahead : ℕ) (fetched : Fetched) (counts now : Counts) (before after pass : Known LogEntry) (state : State) → 1 ≤ page
    → IsMetered page ahead fetched counts now before after → IsClosed after pass state → IsCalledFor page ahead fetched before state
called_for page ahead fetched counts now before after pass state some metered closed = record {
  rows = max_on (length (rows_in before.seen)) fetched.rows (reach_of after.sight.mark page ahead after.name.1) (state_reach state page ahead) metered.reach
      (closed_reach page ahead after pass state some closed);
  grades = asked_on fetched.grades after.met state.asks metered.asked closed.asked;
}
