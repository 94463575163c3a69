-- A query on its way through a pass: what it keeps from look to look, what a look does, and what all of them did.
use Rattle.std.specs.Prelude.{◌≡◌, ◌<◌, ◌⊎◌, ℕ, Bool, true, false, Option, Some, None, List, All, Contains, length}
use Rattle.ranked_list.specs.declared.need.Need.{Need}
use Rattle.turn_lock.specs.Facts.{IsFrontOf, AtMost}
use Rattle.source_state.specs.declared.look.Look.{Look}
use Rattle.source_state.specs.declared.look.LookFault.{LookFault}
use Rattle.source_api.specs.declared.source.FailKind.TheVariants as kind
use Rattle.source_state.specs.declared.look.LookFault.TheVariants as why
use Rattle.source_state.specs.declared.look.Waiting.{Waiting}
use Rattle.source_state.specs.State.{State, IsSound, state_at}
use Rattle.source_pool.specs.declared.hold.Hold.{Hold}
use Rattle.source_pool.specs.Passes.{hold_at, OthersStay}
use Rattle.source_pool.specs.Looks.{Answers as LookAnswers}
use Rattle.source_pool.specs.Looks.{shown_by, IsLook, IsWithin, KnowsOn, Waits}
use Rattle.query_core.specs.Driving.{Continues, IsFedFrom}
use Rattle.query_core.specs.Machines.{method_of, state_of, MakesItsRun}
use Rattle.query_run.specs.declared.ended.Refusal.{Refusal}
use Rattle.query_run.specs.declared.ended.Refusal.TheVariants.{Core, Look as LookedFor}
use Rattle.query_run.specs.declared.running_query.RunningQuery.{RunningQuery}
use Rattle.query_run.specs.Inquiries.{told_to, needed, source_needed, is_done}
use Rattle.query_run.specs.Kept.{IsServed}
use Rattle.query_run.specs.Turns.{Answers}
use Rattle.query_run.specs.Seen.{states_seen}
use Rattle.query_run.specs.Advancing.{WaitsForNothing, IsSourceIn, KnowsMore, Advances}
use Rattle.query_run.specs.Asking.{Wanted}
use Rattle.query_run.specs.Failing.{HasCalledFor, LookRefused}
use Rattle.query_run.specs.Ran.{Uses}

-- states from which a query was fed: each is sound and has as many objects as the query counts, and the pass saw its log, or a longer one
pub record FeedsFrom (holds : List Hold) (q : RunningQuery) (states : List State) : Type 0 where
  pub long : length states ≡ length holds
  pub sound : All IsSound states
  pub counted : (source : ℕ) → source < length states → (state_at states source).count ≡ (state_of q.machine).log.count
  pub seen : (source : ℕ) → IsFrontOf (state_at states source).log (hold_at holds source).pass.1.seen
  pub fed : IsFedFrom (told_to states q) (state_of q.machine)

-- a query that reads through a pass: its sources are there, its machine is on its run, and was fed from what the pass saw
pub record IsReading (holds : List Hold) (q : RunningQuery) : Type 0 where
  pub many : length q.sources.items ≡ (state_of q.machine).log.lists
  pub each : All (IsSourceIn holds (state_of q.machine).log.count) q.sources.items
  pub run : MakesItsRun q.machine
  pub rests : q.waiting.need ≡ None
  pub states : List State
  pub feeds : FeedsFrom holds q states

-- one look for a query's need at its source, by what the pass remembers or in a turn, and what the query makes of the answer
pub record LooksOnce (before after : List Hold) (q r : RunningQuery) : Type 0 where
  pub answer : Look
  pub look : IsLook (needed q) (hold_at before (source_needed q)) (hold_at after (source_needed q)) answer
  pub waits : Waits (needed q) (hold_at before (source_needed q)) (hold_at after (source_needed q)) answer
  pub said : LookAnswers (needed q) (hold_at before (source_needed q)) (hold_at after (source_needed q)) answer
  pub shown : (hold_at after (source_needed q)).shown ≡ shown_by answer (hold_at before (source_needed q)).shown
  pub knows : KnowsOn (hold_at before (source_needed q)).pass.1 (hold_at after (source_needed q)).pass.1
  pub within : IsWithin (hold_at before (source_needed q)) → IsWithin (hold_at after (source_needed q))
  pub others : OthersStay (source_needed q) before after
  pub sources : r.sources.items ≡ q.sources.items
  pub method : method_of r.machine ≡ method_of q.machine
  pub waiting : r.waiting ≡ q.waiting
  pub run : MakesItsRun r.machine
  pub answers : Answers q r answer

-- what looks ahead leave of a source's pass: it waits for what it waited for and was shown what it was shown, it knows at least as much, its own turns
-- go on, and of the source it wanted what is certain for the query
pub record HasPrefetched (q : RunningQuery) (source : ℕ) (before now : Hold) : Type 0 where
  pub waits : now.waiting ≡ before.waiting
  pub shown : now.shown ≡ before.shown
  pub knows : KnowsMore before now
  pub turns : IsFrontOf before.pass.1.gave now.pass.1.gave
  pub wanted : Wanted q source before.pass.1 now.pass.1

-- looks ahead of a query at its sources, by which it stays as it is
pub record LooksAhead (before after : List Hold) (q : RunningQuery) : Type 0 where
  pub size : length after ≡ length before
  pub each : (source : ℕ) → HasPrefetched q source (hold_at before source) (hold_at after source)
  pub others : (source : ℕ) → ¬ Contains q.sources.items source → hold_at after source ≡ hold_at before source

-- a look, and where it is waited for what is needed, looks ahead
pub record WaitsAhead (before after : List Hold) (q r : RunningQuery) : Type 0 where
  pub middle : List Hold
  pub look : LooksOnce before middle q r
  pub going : r.refusal ≡ None
  pub size : length middle ≡ length before
  pub ahead : LooksAhead middle after r

abbrev pub LooksAndAhead : List Hold → List Hold → RunningQuery → RunningQuery → Type 0
LooksAndAhead before after q r = LooksOnce before after q r ⊎ WaitsAhead before after q r

-- what is waited for at a source is what the query needs; the query called for it, and the tally was noted then, which is no less than what
-- the pass knew at first
pub record WaitsAt (q : RunningQuery) (source : ℕ) (need : Need) (before now : Hold) : Type 0 where
  pub here : source ≡ source_needed q
  pub needs : need ≡ needed q
  pub going : is_done need ≡ false
  pub noted : AtMost before.pass.1.tally now.waiting.noted
  pub called : HasCalledFor need now.waiting.noted before.pass.1 now.pass.1

-- a query that isn't refused: nothing but its need is waited for, and no fail was shown
pub record IsOnItsWay (before now : List Hold) (q : RunningQuery) : Type 0 where
  pub waits : (source : ℕ) (need : Need) → (hold_at now source).waiting.need ≡ Some need
      → WaitsAt q source need (hold_at before source) (hold_at now source)
  pub shown : (source : ℕ) → (hold_at now source).shown ≡ (hold_at before source).shown
  pub wants : (source : ℕ) → Wanted q source (hold_at before source).pass.1 (hold_at now source).pass.1
  pub turns : (source : ℕ) → IsFrontOf (hold_at before source).pass.1.gave (hold_at now source).pass.1.gave
  pub meets : (source : ℕ) → IsFrontOf (hold_at before source).pass.1.met (hold_at now source).pass.1.met

-- the query with what it waited for last
abbrev pub with_waiting : Waiting → RunningQuery → RunningQuery
with_waiting waiting q = record q { waiting = waiting }

-- a query that has ended, with what it waited for last: its transcript and its refusal rest on what the pass saw, which waits for nothing
pub record HasStopped (before now : List Hold) (q : RunningQuery) : Type 0 where
  pub last : Waiting
  pub served : IsServed (states_seen now) (with_waiting last q)
  pub uses : Uses before now (with_waiting last q)
  pub why : LookRefused q before now q.refusal
  pub rests : WaitsForNothing now

abbrev pub Stands : List Hold → List Hold → RunningQuery → Option Refusal → Type 0
Stands before now q None = IsOnItsWay before now q
Stands before now q (Some refusal) = HasStopped before now q

-- what the looks of a query did so far, from a first pass and query to these
pub record HasLooked (before now : List Hold) (q r : RunningQuery) : Type 0 where
  pub reading : IsReading now r
  pub advances : Advances q.sources.items before now
  pub sources : r.sources.items ≡ q.sources.items
  pub method : method_of r.machine ≡ method_of q.machine
  pub goes : Continues (state_of q.machine) (state_of r.machine)
  pub stands : Stands before now r r.refusal

-- the query is refused for lack of memory
abbrev pub is_memory : LookFault → Bool
is_memory (why.Source fault) = false
is_memory (why.Missing object) = false
is_memory (why.AsksFull kept) = false
is_memory (why.Call kind.Failed) = false
is_memory (why.Call kind.Garbled) = false
is_memory (why.Call kind.Memory) = true

abbrev pub wants_memory : Option Refusal → Bool
wants_memory None = false
wants_memory (Some (Core fault)) = false
wants_memory (Some (LookedFor list fault)) = is_memory fault
