-- How a query ends that ran over a pool.
use Rattle.std.specs.Prelude.{◌≡◌, ◌≢◌, ◌==◌, ◌⊎◌, ℕ, Option, Some, None, List, if◌then◌else◌}
use Rattle.turn_lock.specs.declared.facts.Tally.{Tally}
use Rattle.turn_lock.specs.Facts.{AtMost}
use Rattle.source_api.specs.declared.source.FailKind.TheVariants as kind
use Rattle.source_state.specs.declared.look.LookFault.TheVariants as why
use Rattle.source_pool.specs.declared.hold.Hold.{Hold}
use Rattle.source_pool.specs.Passes.{hold_at}
use Rattle.source_pool.specs.Looks.{shown_fault}
use Rattle.query_core.specs.declared.ready.Ready.{Ready}
use Rattle.query_run.specs.declared.ended.Ended.{Ended}
use Rattle.query_run.specs.declared.ended.Refusal.{Refusal}
use Rattle.query_run.specs.declared.ended.Refusal.TheVariants.{Core, Look}
use Rattle.query_run.specs.declared.running_query.RunningQuery.{RunningQuery}
use Rattle.query_run.specs.Inquiries.{source_of, source_needed}
use Rattle.query_run.specs.Kept.{IsServed}
use Rattle.query_run.specs.Made.{IsOf}
use Rattle.query_run.specs.Endings.{EndsAs}
use Rattle.query_run.specs.Seen.{states_seen}
use Rattle.query_run.specs.Asking.{Wanted}
use Rattle.query_run.specs.Failing.{LookRefused}

-- the fails that are shown of a source: one more where a look at it told the fail that refuses the query
abbrev pub shown_to : RunningQuery → Option Refusal → ℕ → Tally → Tally
shown_to q None source shown = shown
shown_to q (Some (Core fault)) source shown = shown
shown_to q (Some (Look list fault)) source shown = if source_of q list == source then shown_fault fault shown else shown

-- what a query did through a pass, which held the one before and holds the other now: a fail that refuses it came after all those that the
-- pass knew of before, and is shown once; and of each source it wanted nothing but the rows and grades that it asked for
pub record Uses (before after : List Hold) (q : RunningQuery) : Type 0 where
  pub since : AtMost (hold_at before (source_needed q)).pass.1.tally q.waiting.noted
  pub shown : (source : ℕ) → (hold_at after source).shown ≡ shown_to q q.refusal source (hold_at before source).shown
  pub wanted : (source : ℕ) → Wanted q source (hold_at before source).pass.1 (hold_at after source).pass.1

-- a query that is ready ran through a pass and ended so. There is the query as it stood then: it has the answer of its run, or is refused, but
-- not for lack of memory; its transcript is how its run begins on every table that agrees, and is drawn from the logs that the pass saw;
-- where it is refused, what it needed next can't be had, by what the pass saw; and a fail that refuses it came after the query itself
-- called for what it needed then
pub record Ran (ready : Ready) (before after : List Hold) (end : Ended) : Type 0 where
  pub q : RunningQuery
  pub of : IsOf ready q
  pub ends : EndsAs q end
  pub spared : (list : ℕ) → q.refusal ≢ Some (Look list (why.Call kind.Memory))
  pub served : IsServed (states_seen after) q
  pub uses : Uses before after q
  pub why : LookRefused q before after q.refusal

-- a query that is ready ran some way through a pass and stood so: its transcript is how its run begins on every table that agrees, and is drawn from
-- the logs that the pass saw; of each source it wanted nothing but what it asked for
pub record Stood (ready : Ready) (before after : List Hold) (q : RunningQuery) : Type 0 where
  pub of : IsOf ready q
  pub served : IsServed (states_seen after) q
  pub uses : Uses before after q

-- a query that is ready ran some way through a pass, or not at all, so that the pass stays
abbrev pub RanSome : Ready → List Hold → List Hold → Type 0
RanSome ready before after = (after ≡ before) ⊎ ((q : RunningQuery) × Stood ready before after q)
