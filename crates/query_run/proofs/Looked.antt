-- What a look shows of the state that it found, and from which states the query may be fed after it.
use Rattle.std.proofs.Common.{◌≡◌, ◌<◌, inl, inr, ℕ, false, Some, None, List, length, refl, sym, ap, subst, ◌∙◌, arith}
use Rattle.std.specs.List.{slice_set}
use Rattle.std.proofs.lemmas.Bool.Decides.{eqb_tells}
use Rattle.std.proofs.lemmas.List.{length-set}
use Rattle.std.proofs.lemmas.List.Elements.{All-set}
use Rattle.ranked_list.specs.declared.row.Row.{Row}
use Rattle.ranked_list.specs.declared.need.Need.{Need}
use Rattle.ranked_list.specs.declared.need.Need.TheVariants as need
use Rattle.turn_lock.specs.Facts.{IsFrontOf}
use Rattle.turn_lock.specs.Known.{Follows}
use Rattle.turn_lock.proofs.Growth.{begins_same, begins_on}
use Rattle.topk_theory.specs.Transcript.{Grows}
use Rattle.topk_theory.proofs.Agreement.{drawn_more}
use Rattle.source_state.specs.declared.look.Waiting.{Waiting}
use Rattle.source_state.specs.declared.look.Look.{Look}
use Rattle.source_state.specs.declared.look.Look.TheVariants as look
use Rattle.source_state.specs.declared.look.LookFault.{LookFault}
use Rattle.source_state.specs.declared.look.LookFault.TheVariants as why
use Rattle.source_state.specs.State.{State, IsSound, state_at}
use Rattle.source_state.specs.Looking.{decided, is_full, Ends, Refuses}
use Rattle.source_pool.specs.declared.hold.Hold.{Hold}
use Rattle.source_pool.specs.Passes.{hold_at, OthersStay}
use Rattle.source_pool.specs.Looks.{IsLook, IsTurn}
use Rattle.query_core.specs.Machines.{state_of}
use Rattle.query_run.specs.declared.running_query.RunningQuery.{RunningQuery}
use Rattle.query_run.specs.Inquiries.{told_to}
use Rattle.query_run.proofs.Serving.{state_set, state_other, fault_ends}
use Rattle.source_pool.specs.Seen.{state_seen}
use Rattle.query_run.specs.Looking.{FeedsFrom}
use Rattle.query_run.proofs.SeenLaws.{told_goes}

-- what a pass sees of a state
abbrev pub sight_of : State → State
sight_of s = record { list = s.list; count = s.count; want = 0; log = s.log; asks = s.asks; tally = s.tally; last_fail = None; paused = false }

sound_sight : (s : State) → IsSound s → IsSound (sight_of s)
sound_sight s h = record { log = h.log; distinct = h.distinct; fits = h.fits; small = h.small; want = omega arith; tally = h.tally }

decided_sight : (s : State) (n : Need) → decided (sight_of s) n ≡ decided s n
decided_sight s (need.Row list depth) = refl
decided_sight s (need.Grade list object) = refl
decided_sight s need.Done = refl

full_sight : (s : State) (n : Need) → is_full (sight_of s) n ≡ is_full s n
full_sight s (need.Row list depth) = refl
full_sight s (need.Grade list object) = refl
full_sight s need.Done = refl

ends_sight : (s t : State) (waiting left : Waiting) → Ends s t waiting left → Ends (sight_of s) (sight_of s) waiting left
ends_sight s t waiting left h = record { same = refl; over = h.over }

refuses_sight : (n : Need) (s t : State) (waiting left : Waiting) (fault : LookFault) → Refuses n s t waiting left fault
    → Refuses n (sight_of s) (sight_of s) waiting left fault
refuses_sight n s t waiting left (why.Source fault) h = record { decides = decided_sight s n ∙ h.decides; ends = ends_sight s t waiting left h.ends }
refuses_sight n s t waiting left (why.Missing object) h = record { decides = decided_sight s n ∙ h.decides; ends = ends_sight s t waiting left h.ends }
refuses_sight n s t waiting left (why.AsksFull kept) h = record {
  undecided = decided_sight s n ∙ h.undecided;
  untold = h.untold;
  full = full_sight s n ∙ h.full;
  all = h.all;
  ends = ends_sight s t waiting left h.ends;
}
refuses_sight n s t waiting left (why.Call what) h = record { undecided = decided_sight s n ∙ h.undecided; tells = h.tells; ends = ends_sight s t waiting left h.ends }

-- a look that is not yet answered, or that refuses, took a turn
pub turn_of_wait : (n : Need) (before after : Hold) → IsLook n before after look.NotYet → IsTurn n before after look.NotYet
turn_of_wait n before after (inl glance) = absurd glance.held
turn_of_wait n before after (inr turn) = turn

pub turn_of_fault : (n : Need) (before after : Hold) (fault : LookFault) → IsLook n before after (look.Fault fault) → IsTurn n before after (look.Fault fault)
turn_of_fault n before after fault (inl glance) = absurd glance.held
turn_of_fault n before after fault (inr turn) = turn

-- after a look that left the state as it was, the pass sees what was found, and that is sound
pub record Sees (n : Need) (before after : Hold) (t : State) : Type 0 where
  pub is : state_seen after.pass.1 ≡ sight_of t
  pub sound : IsSound (state_seen after.pass.1)

sees : (n : Need) (before after : Hold) (answer : Look) → (turn : IsTurn n before after answer) → turn.left ≡ turn.found → Sees n before after turn.found
sees n before after answer turn same =
    let given : state_seen after.pass.1 ≡ record { list = before.pass.1.name.0; count = before.pass.1.name.1; want = 0; log = turn.left.log; asks = turn.left.asks; tally = turn.left.tally; last_fail = None; paused = false }
    = ap state_seen turn.gave in
    let named : record { list = before.pass.1.name.0; count = before.pass.1.name.1; want = 0; log = turn.left.log; asks = turn.left.asks; tally = turn.left.tally; last_fail = None; paused = false } ≡ named_as (turn.found.list, turn.found.count) turn.left
    = ap (λ (name : ℕ × ℕ). named_as name turn.left) (sym turn.agrees.name) in
    let is : state_seen after.pass.1 ≡ sight_of turn.found = given ∙ named ∙ ap (named_as (turn.found.list, turn.found.count)) same in
    record { is = is; sound = subst IsSound (sym is) (sound_sight turn.found (subst IsSound same turn.sound)) }
  where
    named_as : ℕ × ℕ → State → State
    named_as name s = record { list = name.0; count = name.1; want = 0; log = s.log; asks = s.asks; tally = s.tally; last_fail = None; paused = false }

-- what the state that the pass sees decides
pub record IsDecidedBy (n : Need) (s : State) (answer : Look) : Type 0 where
  pub sound : IsSound s
  pub decides : decided s n ≡ Some answer

pub row_seen : (n : Need) (before after : Hold) (row : Row) → IsLook n before after (look.Row row)
    → IsDecidedBy n (state_seen after.pass.1) (look.Row row)
row_seen n before after row (inl glance) =
    subst (λ (hold : Hold). IsDecidedBy n (state_seen hold.pass.1) (look.Row row)) (sym glance.same) (record { sound = glance.sound; decides = glance.decides })
row_seen n before after row (inr turn) =
    let s = sees n before after (look.Row row) turn turn.looks.ends.same in
    record { sound = s.sound; decides = subst (λ t. decided t n ≡ Some (look.Row row)) (sym s.is) (decided_sight turn.found n ∙ turn.looks.decides) }

pub grade_seen : (n : Need) (before after : Hold) (grade : ℕ) → IsLook n before after (look.Grade grade)
    → IsDecidedBy n (state_seen after.pass.1) (look.Grade grade)
grade_seen n before after grade (inl glance) =
    subst (λ (hold : Hold). IsDecidedBy n (state_seen hold.pass.1) (look.Grade grade)) (sym glance.same) (record { sound = glance.sound; decides = glance.decides })
grade_seen n before after grade (inr turn) =
    let s = sees n before after (look.Grade grade) turn turn.looks.ends.same in
    record { sound = s.sound; decides = subst (λ t. decided t n ≡ Some (look.Grade grade)) (sym s.is) (decided_sight turn.found n ∙ turn.looks.decides) }

pub fault_seen : (n : Need) (before after : Hold) (fault : LookFault) → IsTurn n before after (look.Fault fault)
    → Refuses n (state_seen after.pass.1) (state_seen after.pass.1) before.waiting after.waiting fault
fault_seen n before after fault turn =
    let s = sees n before after (look.Fault fault) turn (fault_ends n turn.found turn.left before.waiting after.waiting fault turn.looks).same in
    subst (λ t. Refuses n t t before.waiting after.waiting fault) (sym s.is) (refuses_sight n turn.found turn.left before.waiting after.waiting fault turn.looks)

-- what is seen of the source of a look goes on, and nothing else changes
pub record SeesOn (source : ℕ) (before after : List Hold) : Type 0 where
  pub long : length after ≡ length before
  pub follows : Follows (hold_at before source).pass.1 (hold_at after source).pass.1
  pub name : (hold_at after source).pass.1.name ≡ (hold_at before source).pass.1.name
  pub others : OthersStay source before after

seen_on : (source other : ℕ) (before after : List Hold) → SeesOn source before after
    → IsFrontOf (hold_at before other).pass.1.seen (hold_at after other).pass.1.seen
seen_on source other before after on = elim (eqb_tells other source) [
  | inl t ↦ subst (λ o. IsFrontOf (hold_at before o).pass.1.seen (hold_at after o).pass.1.seen) (sym t.1) on.follows.seen
  | inr f ↦ subst (λ (hold : Hold). IsFrontOf (hold_at before other).pass.1.seen hold.pass.1.seen) (sym (on.others.stay other f.1)) (begins_same (hold_at before other).pass.1.seen)
]

pub name_on : (source other : ℕ) (before after : List Hold) → SeesOn source before after
    → (hold_at after other).pass.1.name ≡ (hold_at before other).pass.1.name
name_on source other before after on = elim (eqb_tells other source) [
  | inl t ↦ subst (λ o. (hold_at after o).pass.1.name ≡ (hold_at before o).pass.1.name) (sym t.1) on.name
  | inr f ↦ ap (λ (hold : Hold). hold.pass.1.name) (on.others.stay other f.1)
]

-- a query goes on to be fed from the same states
pub feeds_still : (source : ℕ) (before after : List Hold) (q : RunningQuery) (states : List State) → SeesOn source before after → FeedsFrom before q states
    → FeedsFrom after q states
feeds_still source before after q states on h = record {
  long = h.long ∙ sym on.long;
  sound = h.sound;
  counted = h.counted;
  seen = λ other. begins_on (h.seen other) (seen_on source other before after on);
  fed = h.fed;
}

-- or from the state that was seen
pub feeds_later : (source : ℕ) (before after : List Hold) (q : RunningQuery) (states : List State) → SeesOn source before after → FeedsFrom before q states
    → source < length before → IsSound (state_seen (hold_at after source).pass.1)
    → (hold_at before source).pass.1.name.1 ≡ (state_of q.machine).log.count
    → length q.sources.items ≡ (state_of q.machine).log.lists
    → FeedsFrom after q (slice_set states source (state_seen (hold_at after source).pass.1))
feeds_later source before after q states on h there sound count many =
    let u = state_seen (hold_at after source).pass.1 in
    let within : source < length states = let long = h.long in omega (arith, there, long) in
    let set : state_at (slice_set states source u) source ≡ u = state_set states source u within in
    let grown : (other : ℕ) → IsFrontOf (state_at states other).log (state_at (slice_set states source u) other).log
    = λ other. elim (eqb_tells other source) [
      | inl t ↦ subst (λ o. IsFrontOf (state_at states o).log (state_at (slice_set states source u) o).log) (sym t.1)
          (subst (λ (s : State). IsFrontOf (state_at states source).log s.log) (sym set) (begins_on (h.seen source) on.follows.seen))
      | inr f ↦ subst (λ (s : State). IsFrontOf (state_at states other).log s.log) (sym (state_other states source other u f.1)) (begins_same (state_at states other).log)
    ] in
    record {
      long = length-set states source u ∙ (h.long ∙ sym on.long);
      sound = All-set IsSound states source u sound h.sound;
      counted = λ other l. elim (eqb_tells other source) [
        | inl t ↦ ap (λ (s : State). s.count) (ap (state_at (slice_set states source u)) t.1 ∙ set) ∙ (ap (λ (name : ℕ × ℕ). name.1) on.name ∙ count)
        | inr f ↦ ap (λ (s : State). s.count) (state_other states source other u f.1) ∙ h.counted other (let same = length-set states source u in omega (arith, l, same))
      ];
      seen = λ other. elim (eqb_tells other source) [
        | inl t ↦ subst (λ o. IsFrontOf (state_at (slice_set states source u) o).log (hold_at after o).pass.1.seen) (sym t.1)
            (subst (λ (s : State). IsFrontOf s.log (hold_at after source).pass.1.seen) (sym set) (begins_same (hold_at after source).pass.1.seen))
        | inr f ↦ subst (λ (s : State). IsFrontOf s.log (hold_at after other).pass.1.seen) (sym (state_other states source other u f.1))
            (begins_on (h.seen other) (seen_on source other before after on))
      ];
      fed = record {
        drawn = drawn_more (state_of q.machine).log.lists (told_to states q) (told_to (slice_set states source u) q) (state_of q.machine).log.accesses
            (subst (λ m. Grows m (told_to states q) (told_to (slice_set states source u) q)) many (told_goes states (slice_set states source u) q.sources.items grown)) h.fed.drawn;
        roomy = h.fed.roomy;
      };
    }
