-- What a look through a pass of a pool answers, and what it changes of what the pass holds of its source.
use Rattle.std.specs.Prelude.{◌≡◌, ◌≢◌, ◌≤◌, ◌+◌, ◌-◌, ◌⊎◌, ℕ, max, Bool, MatchBool, true, false, Option, Some, None, List, [], ◌∷◌, ◌++◌, length, slice_get, Contains}
use Rattle.ranked_list.specs.declared.need.Need.{Need}
use Rattle.ranked_list.specs.declared.need.Need.TheVariants as need
use Rattle.topk_theory.specs.Bounds.{grade_among}
use Rattle.turn_lock.specs.declared.facts.Tally.{Tally}
use Rattle.turn_lock.specs.declared.known.Known.{Known}
use Rattle.turn_lock.specs.Facts.{AtMost}
use Rattle.turn_lock.specs.Known.{KnowsOf, Follows, after_turn}
use Rattle.source_state.specs.declared.entry.LogEntry.{LogEntry}
use Rattle.source_api.specs.declared.source.FailKind.{FailKind}
use Rattle.source_state.specs.declared.look.Look.{Look}
use Rattle.source_state.specs.declared.look.Look.TheVariants as look
use Rattle.source_state.specs.declared.look.LookFault.{LookFault}
use Rattle.source_state.specs.declared.look.LookFault.TheVariants as why
use Rattle.source_state.specs.Log.{rows_in, fault_in, settling_in}
use Rattle.source_state.specs.State.{State, asked_as, facts_of, IsSound}
use Rattle.source_state.specs.Events.{counted}
use Rattle.source_state.specs.Looking.{waits_for, row_or_fault, grade_or, told, decided, Looks}
use Rattle.source_pool.specs.declared.hold.Hold.{Hold}
use Rattle.source_pool.specs.Seen.{state_seen}
use Rattle.source_pool.specs.Windows.{row_held, window_after}
use Rattle.source_pool.specs.Remembering.{IsHeld}

-- what a log says of a need, if it decides it: the row at the depth, else the row fault; what the object settled as, else its grade
-- in the rows
abbrev pub said_in : List LogEntry → Need → Option Look
said_in log (need.Row list depth) = row_or_fault (slice_get (rows_in log) (depth - 1)) (fault_in log)
said_in log (need.Grade list object) = grade_or object (Some (asked_as (settling_in log object))) (grade_among (rows_in log) object)
said_in log need.Done = None

-- a need may be looked for: a row at a depth of the list, or a grade
abbrev pub MayLookFor : Known LogEntry → Need → Type 0
MayLookFor known (need.Row list depth) = (1 ≤ depth) × (depth ≤ known.name.1)
MayLookFor known (need.Grade list object) = Unit {0}
MayLookFor known need.Done = ⊥

-- as many objects were asked as the list has, and this need's isn't one of them
pub record IsLeftOut (known : Known LogEntry) (object : ℕ) : Type 0 where
  pub all : length known.met ≡ known.name.1
  pub absent : ¬ Contains known.met object

-- the need is a grade that the source can't be asked for any more
abbrev pub HasNoRoom : Known LogEntry → Need → Type 0
HasNoRoom known (need.Grade list object) = IsLeftOut known object
HasNoRoom _ _ = ⊥

-- the first kind of fail of which the pass now knows more than it noted, where it waited for the need
abbrev pub told_of : Need → Hold → Hold → Option FailKind
told_of need before after = told before.waiting need after.pass.1.tally

-- the log that the pass now knows decides the need so
pub record IsSaid (need : Need) (before after : Hold) (answer : Look) : Type 0 where
  pub says : said_in after.pass.1.seen need ≡ Some answer

-- the log decides nothing, and a fail of this kind is told
pub record IsFail (need : Need) (before after : Hold) (what : FailKind) : Type 0 where
  pub undecided : said_in after.pass.1.seen need ≡ None
  pub tells : told_of need before after ≡ Some what

-- nothing is decided or told, and no room is left for one more ask
pub record IsFull (need : Need) (before after : Hold) (kept : ℕ) : Type 0 where
  pub undecided : said_in after.pass.1.seen need ≡ None
  pub untold : told_of need before after ≡ None
  pub full : HasNoRoom after.pass.1 need
  pub all : kept ≡ length after.pass.1.met

-- nothing is decided, told or refused: the pass waits for the need
pub record IsAwaited (need : Need) (before after : Hold) : Type 0 where
  pub undecided : said_in after.pass.1.seen need ≡ None
  pub untold : told_of need before after ≡ None
  pub room : ¬ HasNoRoom after.pass.1 need
  pub waits : waits_for after.waiting.need need ≡ true

-- what a look answers, by what the pass knows after it
abbrev pub Refuses : Need → Hold → Hold → LookFault → Type 0
Refuses need before after (why.Source fault) = IsSaid need before after (look.Fault (why.Source fault))
Refuses need before after (why.Missing object) = IsSaid need before after (look.Fault (why.Missing object))
Refuses need before after (why.AsksFull kept) = IsFull need before after kept
Refuses need before after (why.Call what) = IsFail need before after what

abbrev pub Answers : Need → Hold → Hold → Look → Type 0
Answers need before after (look.Row row) = IsSaid need before after (look.Row row)
Answers need before after (look.Grade grade) = IsSaid need before after (look.Grade grade)
Answers need before after look.NotYet = IsAwaited need before after
Answers need before after (look.Fault fault) = Refuses need before after fault

-- the highest mark that the pass set, and the asks that it added, stay
pub record KeepsMarks (before after : Known LogEntry) : Type 0 where
  pub high : after.high ≡ before.high
  pub asked : after.asked ≡ before.asked
  pub mine : after.mine ≡ before.mine

-- the state has the want of a row or the ask of an object; the pass may have raised the mark so far, or added this one ask, which it hadn't met
pub record HasWant (depth : ℕ) (before after : Known LogEntry) : Type 0 where
  pub wanted : depth ≤ after.sight.mark
  pub high : after.high ≤ max before.high depth
  pub asked : after.asked ≡ before.asked
  pub mine : after.mine ≡ before.mine

pub record KeepsAsks (before after : Known LogEntry) : Type 0 where
  pub asked : after.asked ≡ before.asked
  pub mine : after.mine ≡ before.mine

pub record AddsAsk (object : ℕ) (before after : Known LogEntry) : Type 0 where
  pub asked : after.asked ≤ before.asked + 1
  pub mine : after.mine ≡ before.mine ++ object ∷ []
  pub unmet : ¬ Contains before.met object

pub record HasAsk (object : ℕ) (before after : Known LogEntry) : Type 0 where
  pub asks : Contains after.met object
  pub high : after.high ≡ before.high
  pub added : KeepsAsks before after ⊎ AddsAsk object before after

abbrev pub HasCalled : Need → Known LogEntry → Known LogEntry → Type 0
HasCalled (need.Row list depth) before after = HasWant depth before after
HasCalled (need.Grade list object) before after = HasAsk object before after
HasCalled need.Done before after = ⊥

-- the pass waited for this need already: it noted what it had noted
pub record GoesOn (need : Need) (before after : Hold) : Type 0 where
  pub waits : waits_for before.waiting.need need ≡ true
  pub same : after.waiting ≡ before.waiting
  pub marks : KeepsMarks before.pass.1 after.pass.1

-- the pass begins to wait: the want or the ask is there, the state isn't paused, and the tally is noted
pub record BeginsToWait (need : Need) (before after : Hold) : Type 0 where
  pub fresh : waits_for before.waiting.need need ≡ false
  pub notes : after.waiting ≡ record { need = Some need; noted = after.pass.1.tally }
  pub awake : after.pass.1.sight.due ≢ 0
  pub called : HasCalled need before.pass.1 after.pass.1

-- the pass waits for nothing more
pub record Ends (before after : Hold) : Type 0 where
  pub over : after.waiting ≡ record before.waiting { need = None }
  pub marks : KeepsMarks before.pass.1 after.pass.1

-- what a look leaves waiting, and what it asked of the source
abbrev pub Waits : Need → Hold → Hold → Look → Type 0
Waits need before after (look.Row row) = Ends before after
Waits need before after (look.Grade grade) = Ends before after
Waits need before after look.NotYet = GoesOn need before after ⊎ BeginsToWait need before after
Waits need before after (look.Fault fault) = Ends before after

-- what was shown through the pass, with one more of the kind of fail that a look told
abbrev pub shown_fault : LookFault → Tally → Tally
shown_fault (why.Source fault) shown = shown
shown_fault (why.Missing object) shown = shown
shown_fault (why.AsksFull kept) shown = shown
shown_fault (why.Call what) shown = counted what shown

abbrev pub shown_by : Look → Tally → Tally
shown_by (look.Row row) shown = shown
shown_by (look.Grade grade) shown = shown
shown_by look.NotYet shown = shown
shown_by (look.Fault fault) shown = shown_fault fault shown

-- what a look leaves of its pass: it knows at least as much of the same source, and has the same parts
pub record KnowsOn (before after : Known LogEntry) : Type 0 where
  pub follows : Follows before after
  pub name : after.name ≡ before.name
  pub parts : after.parts ≡ before.parts
  pub writer : after.writer ≡ before.writer

-- what is held of a source where nothing more is waited for
abbrev pub rested : Hold → Hold
rested hold = record hold { waiting = record hold.waiting { need = None } }

-- a look that what the pass remembers answered: what it has seen decides the need so, no turn is taken, and nothing changes but that the pass waits
-- for nothing more at the source
pub record IsGlance (need : Need) (before after : Hold) (answer : Look) : Type 0 where
  pub held : IsHeld before.remembered need answer
  pub decides : decided (state_seen before.pass.1) need ≡ Some answer
  pub sound : IsSound (state_seen before.pass.1)
  pub same : after ≡ rested before

-- a look at the state that its turn found, which left this sound state; the needed row isn't remembered, and where the state has it, its rows
-- from there on are copied
pub record IsTurn (need : Need) (before after : Hold) (answer : Look) : Type 0 where
  pub unheld : row_held before.remembered.rows need ≡ None
  pub found : State
  pub left : State
  pub agrees : KnowsOf (facts_of found) before.pass.1
  pub looks : Looks need found left before.waiting after.waiting answer
  pub gave : after.pass.1 ≡ after_turn (facts_of found) (facts_of left) before.pass.1
  pub sound : IsSound left
  pub fills : after.remembered.rows ≡ window_after answer need (rows_in after.pass.1.seen) before.remembered.rows

-- a look is answered by what is remembered, or in a turn
abbrev pub IsLook : Need → Hold → Hold → Look → Type 0
IsLook need before after answer = IsGlance need before after answer ⊎ IsTurn need before after answer

-- no more fails were shown than the pass knows of, nor than it noted while it waits
pub record IsWithin (hold : Hold) : Type 0 where
  pub shown : AtMost hold.shown hold.pass.1.tally
  pub noted : hold.waiting.need ≢ None → AtMost hold.shown hold.waiting.noted

-- nothing is there yet of a need to come, and there is room for it: the state has the want or the ask of it
pub record IsCalledAhead (need : Need) (before after : Hold) : Type 0 where
  pub undecided : said_in after.pass.1.seen need ≡ None
  pub room : ¬ HasNoRoom after.pass.1 need
  pub called : HasCalled need before.pass.1 after.pass.1

-- the log decides the need, or it can't be asked for any more: nothing is asked
pub record IsNotCalled (need : Need) (before after : Hold) : Type 0 where
  pub there : ((answer : Look) × (said_in after.pass.1.seen need ≡ Some answer)) ⊎ HasNoRoom after.pass.1 need
  pub marks : KeepsMarks before.pass.1 after.pass.1

-- a turn that asks for a need to come, in which the pass waits for nothing, and whether it was missing: nothing was there yet, and there was room for
-- it. The pass knows at least as much, and what it waits for, was shown and remembers stays
pub record AsksAhead (need : Need) (before after : Hold) (missing : Bool) : Type 0 where
  pub found : State
  pub left : State
  pub agrees : KnowsOf (facts_of found) before.pass.1
  pub gave : after.pass.1 ≡ after_turn (facts_of found) (facts_of left) before.pass.1
  pub sound : IsSound left
  pub knows : KnowsOn before.pass.1 after.pass.1
  pub called : MatchBool missing (IsCalledAhead need before after) (IsNotCalled need before after)
  pub waits : after.waiting ≡ before.waiting
  pub shown : after.shown ≡ before.shown
  pub remembers : after.remembered ≡ before.remembered
