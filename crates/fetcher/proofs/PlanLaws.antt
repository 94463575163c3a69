-- States of the same facts have the same plan.
use Rattle.std.proofs.Common.{◌≡◌, ◌||◌, ◌&&◌, ◌-◌, ℕ, min, Bool, true, false, Option, Some, None, List, length, is_some, is_none, nat_le, map, refl, ap, if◌then◌else◌}
use Rattle.std.specs.Option.{option_map}
use Rattle.turn_lock.specs.declared.facts.Facts.{Facts}
use Rattle.source_state.specs.declared.ask.Ask.{Ask}
use Rattle.source_state.specs.declared.entry.LogEntry.{LogEntry}
use Rattle.source_state.specs.Log.{rows_in, fault_in}
use Rattle.source_state.specs.Asks.{ask_in, first_due}
use Rattle.source_state.specs.declared.plan.Plan.{Plan}
use Rattle.source_state.specs.declared.plan.Plan.TheVariants as plan
use Rattle.source_state.specs.State.{State, facts_of, first_pending, due_by}
use Rattle.source_state.specs.Looking.{reach_of, fetched, plan_of}

-- what is due tells whether the state is paused
paused_by : (one other : Bool) (first second : Option ℕ) → due_by one first ≡ due_by other second → one ≡ other
paused_by true true first second e = refl
paused_by true false first None e = absurd (cc)
paused_by true false first (Some object) e = absurd (cc)
paused_by false true None second e = absurd (cc)
paused_by false true (Some object) second e = absurd (cc)
paused_by false false first second e = refl

-- the plan by the parts of a state
abbrev pending_by : List LogEntry → List ℕ → Option ℕ
pending_by log asks = option_map (λ (ask : Ask). ask.object) (first_due (map (ask_in log) asks))

abbrev plan_by : ℕ → ℕ → Bool → List LogEntry → List ℕ → ℕ → ℕ → Plan
plan_by page ahead paused log asks want count =
    if (paused || (is_none (pending_by log asks) && (nat_le (reach_of want page ahead count) (length (rows_in log)) || is_some (fault_in log)))) then plan.Idle
    else fetched (pending_by log asks) (length (rows_in log)) (min page (reach_of want page ahead count - length (rows_in log)))

pub same_plan : (page ahead : ℕ) (one other : State) → facts_of one ≡ facts_of other → plan_of one page ahead ≡ plan_of other page ahead
same_plan page ahead one other e =
    let paused : one.paused ≡ other.paused = paused_by one.paused other.paused (first_pending one) (first_pending other) (ap (λ (f : Facts LogEntry). f.due) e) in
    let log : one.log ≡ other.log = ap (λ (f : Facts LogEntry). f.log) e in
    let asks : one.asks ≡ other.asks = ap (λ (f : Facts LogEntry). f.asks) e in
    let want : one.want ≡ other.want = ap (λ (f : Facts LogEntry). f.mark) e in
    let count : one.count ≡ other.count = ap (λ (f : Facts LogEntry). f.name.1) e in
    λ i. plan_by page ahead (paused i) (log i) (asks i) (want i) (count i)
