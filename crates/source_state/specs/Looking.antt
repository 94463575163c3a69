-- What a look at the state answers and notes, and what is fetched next.
use Rattle.std.specs.Prelude.{◌≡◌, ◌≤◌, ◌==◌, ◌&&◌, ◌||◌, ◌⊎◌, ◌+◌, ◌-◌, ◌*◌, ◌/◌, ℕ, min, Bool, true, false, Option, Some, None, length, slice_get, is_some, is_none, nat_le, nat_lt, if◌then◌else◌}
use Rattle.std.specs.Option.{option_map}
use Rattle.ranked_list.specs.declared.row.Row.{Row}
use Rattle.ranked_list.specs.declared.need.Need.{Need}
use Rattle.ranked_list.specs.declared.need.Need.TheVariants as need
use Rattle.turn_lock.specs.declared.facts.Tally.{Tally}
use Rattle.topk_theory.specs.Bounds.{grade_among}
use Rattle.source_state.specs.declared.entry.Asked.{Asked}
use Rattle.source_state.specs.declared.entry.Asked.TheVariants as became
use Rattle.source_api.specs.declared.source.FailKind.{FailKind}
use Rattle.source_api.specs.declared.source.FailKind.TheVariants as kind
use Rattle.source_state.specs.declared.entry.SourceFault.{SourceFault}
use Rattle.source_state.specs.declared.look.Waiting.{Waiting}
use Rattle.source_state.specs.declared.look.Look.{Look}
use Rattle.source_state.specs.declared.look.Look.TheVariants as look
use Rattle.source_state.specs.declared.look.LookFault.{LookFault}
use Rattle.source_state.specs.declared.look.LookFault.TheVariants as why
use Rattle.source_state.specs.declared.plan.Plan.{Plan}
use Rattle.source_state.specs.declared.plan.Plan.TheVariants as plan
use Rattle.source_state.specs.Log.{rows_in, fault_in}
use Rattle.source_state.specs.State.{State, asked_in, first_pending}
use Rattle.source_state.specs.Events.{wanted, with_ask}

-- whether two needs are for the same row or for the same grade, whatever the numbers of their lists
abbrev pub is_same : Need → Need → Bool
is_same (need.Row list depth) (need.Row other another) = depth == another
is_same (need.Grade list object) (need.Grade other another) = object == another
is_same _ _ = false

-- whether this is what is waited for
abbrev pub waits_for : Option Need → Need → Bool
waits_for None need = false
waits_for (Some waited) need = is_same waited need

-- the row where it is there, else the row fault
abbrev pub row_or_fault : Option Row → Option SourceFault → Option Look
row_or_fault (Some row) fault = Some (look.Row row)
row_or_fault None fault = option_map (λ f. look.Fault (why.Source f)) fault

-- what the ask of an object settled as, else its grade in the rows
abbrev pub grade_or : ℕ → Option Asked → Option ℕ → Option Look
grade_or object (Some (became.Graded grade)) held = Some (look.Grade grade)
grade_or object (Some (became.Bad fault)) held = Some (look.Fault (why.Source fault))
grade_or object (Some became.Missed) held = Some (look.Fault (why.Missing object))
grade_or object (Some became.Pending) held = option_map look.Grade held
grade_or object None held = option_map look.Grade held

-- what the log of the state says of the row at a depth, of the grade of an object, and of a need, if it decides it
abbrev pub decided_row : State → ℕ → Option Look
decided_row s depth = row_or_fault (slice_get (rows_in s.log) (depth - 1)) (fault_in s.log)

abbrev pub decided_grade : State → ℕ → Option Look
decided_grade s object = grade_or object (asked_in s object) (grade_among (rows_in s.log) object)

abbrev pub decided : State → Need → Option Look
decided s (need.Row list depth) = decided_row s depth
decided s (need.Grade list object) = decided_grade s object
decided s need.Done = None

-- the first kind of fail of which more came than were noted
abbrev pub newer : Tally → Tally → Option FailKind
newer noted now =
    if nat_lt noted.failed now.failed then Some kind.Failed
    else if nat_lt noted.garbled now.garbled then Some kind.Garbled
    else if nat_lt noted.memory now.memory then Some kind.Memory
    else None

-- the kind of fail that came since this need began to wait, if it waits
abbrev pub told : Waiting → Need → Tally → Option FailKind
told waiting need now = if waits_for waiting.need need then newer waiting.noted now else None

-- no room is left for the ask of this need
abbrev pub is_full : State → Need → Bool
is_full s (need.Grade list object) = is_none (asked_in s object) && length s.asks == s.count
is_full _ _ = false

-- the state after the want or the ask of a need
abbrev pub called : State → Need → State
called s (need.Row list depth) = wanted s depth
called s (need.Grade list object) = with_ask s object
called s need.Done = s

-- the state stays and the waiting is over
pub record Ends (before after : State) (waiting left : Waiting) : Type 0 where
  pub same : after ≡ before
  pub over : left ≡ record waiting { need = None }

-- the log decides the need so
pub record IsDecided (need : Need) (before after : State) (waiting left : Waiting) (answer : Look) : Type 0 where
  pub decides : decided before need ≡ Some answer
  pub ends : Ends before after waiting left

-- the log decides nothing, and a fail of this kind is the first that came since the need began to wait
pub record IsFailTold (need : Need) (before after : State) (waiting left : Waiting) (what : FailKind) : Type 0 where
  pub undecided : decided before need ≡ None
  pub tells : told waiting need before.tally ≡ Some what
  pub ends : Ends before after waiting left

-- nothing is decided or told, and no room is left for one more ask
pub record IsRefused (need : Need) (before after : State) (waiting left : Waiting) (kept : ℕ) : Type 0 where
  pub undecided : decided before need ≡ None
  pub untold : told waiting need before.tally ≡ None
  pub full : is_full before need ≡ true
  pub all : kept ≡ length before.asks
  pub ends : Ends before after waiting left

-- it waits for this need already, and nothing changes
pub record WaitsOn (need : Need) (before after : State) (waiting left : Waiting) : Type 0 where
  pub waits : waits_for waiting.need need ≡ true
  pub same : after ≡ before
  pub goes_on : left ≡ waiting

-- it begins to wait for this need: the want or the ask comes, and the tally is noted
pub record BeginsWaiting (need : Need) (before after : State) (waiting left : Waiting) : Type 0 where
  pub fresh : waits_for waiting.need need ≡ false
  pub calls : after ≡ called before need
  pub notes : left ≡ record { need = Some need; noted = after.tally }

-- nothing is decided, told or refused: it waits on or begins to wait
pub record IsOpen (need : Need) (before after : State) (waiting left : Waiting) : Type 0 where
  pub undecided : decided before need ≡ None
  pub untold : told waiting need before.tally ≡ None
  pub room : is_full before need ≡ false
  pub waits : WaitsOn need before after waiting left ⊎ BeginsWaiting need before after waiting left

-- a look that refuses
abbrev pub Refuses : Need → State → State → Waiting → Waiting → LookFault → Type 0
Refuses need before after waiting left (why.Source fault) = IsDecided need before after waiting left (look.Fault (why.Source fault))
Refuses need before after waiting left (why.Missing object) = IsDecided need before after waiting left (look.Fault (why.Missing object))
Refuses need before after waiting left (why.AsksFull kept) = IsRefused need before after waiting left kept
Refuses need before after waiting left (why.Call what) = IsFailTold need before after waiting left what

-- what a look answers of a need, and what it leaves of the state and of what waits: what the log decides comes first, then a
-- fail since the need began to wait, then that no room is left, then that it is not yet there
abbrev pub Looks : Need → State → State → Waiting → Waiting → Look → Type 0
Looks need before after waiting left (look.Row row) = IsDecided need before after waiting left (look.Row row)
Looks need before after waiting left (look.Grade grade) = IsDecided need before after waiting left (look.Grade grade)
Looks need before after waiting left look.NotYet = IsOpen need before after waiting left
Looks need before after waiting left (look.Fault fault) = Refuses need before after waiting left fault

-- a need may be looked for: a row at a depth of the list, or a grade
abbrev pub MayLook : State → Need → Type 0
MayLook s (need.Row list depth) = (1 ≤ depth) × (depth ≤ s.count)
MayLook s (need.Grade list object) = Unit {0}
MayLook s need.Done = ⊥

-- how many rows are to be fetched for a want: none for none, else those of the wanted depth, rounded up to whole pages, and of the
-- pages ahead, at most all
abbrev pub reach_of : ℕ → ℕ → ℕ → ℕ → ℕ
reach_of want page ahead count = if want == 0 then 0 else min count ((want + page - 1) / page * page + ahead * page)

-- the reach of the state's want
abbrev pub state_reach : State → ℕ → ℕ → ℕ
state_reach s page ahead = reach_of s.want page ahead s.count

-- nothing is to be fetched: the state is paused, or no ask is due and the rows reach as far as they are to or are at fault
abbrev pub is_idle : State → ℕ → ℕ → Bool
is_idle s page ahead = s.paused || (is_none (first_pending s) && (nat_le (state_reach s page ahead) (length (rows_in s.log)) || is_some (fault_in s.log)))

-- the grade that is due, else the next page
abbrev pub fetched : Option ℕ → ℕ → ℕ → Plan
fetched (Some object) from count = plan.Grade object
fetched None from count = plan.Page from count

-- what is to be fetched next
abbrev pub plan_of : State → ℕ → ℕ → Plan
plan_of s page ahead =
    if is_idle s page ahead then plan.Idle
    else fetched (first_pending s) (length (rows_in s.log)) (min page (state_reach s page ahead - length (rows_in s.log)))

-- a page that is to be fetched goes on where the rows end, asks for one row at least and for no more than a page, and stays within the reach
pub record IsNextPage (s : State) (page ahead from count : ℕ) : Type 0 where
  pub no_fault : fault_in s.log ≡ None
  pub next : from ≡ length (rows_in s.log)
  pub some : 1 ≤ count
  pub whole : count ≤ page
  pub reach : from + count ≤ state_reach s page ahead
  pub within : state_reach s page ahead ≤ s.count

-- a grade that is to be fetched is pending
pub record IsNextGrade (s : State) (object : ℕ) : Type 0 where
  pub first : first_pending s ≡ Some object
  pub pending : asked_in s object ≡ Some became.Pending

-- what a plan may rest on
abbrev pub Serves : State → ℕ → ℕ → Plan → Type 0
Serves s page ahead plan.Idle = is_idle s page ahead ≡ true
Serves s page ahead (plan.Page from count) = IsNextPage s page ahead from count
Serves s page ahead (plan.Grade object) = IsNextGrade s object
