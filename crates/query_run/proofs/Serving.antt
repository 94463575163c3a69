-- What a turn and what an event keep of a query.
use Rattle.std.proofs.Common.{◌≡◌, ◌≢◌, ◌<◌, ◌-◌, ◌⊎◌, inl, inr, ℕ, zero, suc, false, Option, Some, None, List, [], ◌∷◌, ◌++◌, length, map, is_some, slice_get, slice_index_or, All, Contains, refl, sym, ap, subst, ◌∙◌, arith}
use Rattle.std.specs.List.{slice_set}
use Rattle.std.proofs.lemmas.Bool.{or_parts}
use Rattle.std.proofs.lemmas.Bool.Decides.{eqb_tells}
use Rattle.std.proofs.lemmas.List.{get_or-set_same, get_or-set_other, length-set}
use Rattle.ranked_list.specs.declared.row.Row.{Row}
use Rattle.ranked_list.specs.declared.need.Need.{Need}
use Rattle.ranked_list.specs.declared.need.Need.TheVariants as need
use Rattle.ranked_list.proofs.OptionLaws.{none_unless_some}
use Rattle.topk_theory.specs.declared.access.Access.TheVariants.{Sorted, Random}
use Rattle.topk_theory.specs.Transcript.{Grows, Gives, list_at, depth_of, seen_objects}
use Rattle.topk_theory.specs.Consistent.{IsOfKind, too_many_objects}
use Rattle.topk_theory.proofs.Agreement.{drawn_more, seen_is_named}
use Rattle.topk_theory.proofs.AgreementLists.{all_from_members, contains_map_from, member_of_all, contains_at}
use Rattle.machine_base.specs.Machine.{MachineState, IsNextRow, IsInRange, IsOfSeen, HasRoomFor, Takes, grade_access, MayBeNextRow, MayBeNextGrade}
use Rattle.machine_base.specs.declared.core_fault.CoreFault.{CoreFault}
use Rattle.machine_base.specs.declared.core_fault.CoreFault.TheVariants.{Strangers, RoomFull}
use Rattle.machine_base.proofs.MachineLaws.{in_range}
use Rattle.source_state.specs.declared.look.Waiting.{Waiting}
use Rattle.source_state.specs.declared.look.Look.{Look}
use Rattle.source_state.specs.declared.look.Look.TheVariants as look
use Rattle.source_state.specs.declared.look.LookFault.{LookFault}
use Rattle.source_state.specs.declared.look.LookFault.TheVariants as why
use Rattle.source_state.specs.Log.{rows_in, graded_in}
use Rattle.source_state.specs.State.{State, IsSound, state_at}
use Rattle.source_state.specs.Drawing.{told_by, IsSomeSound}
use Rattle.source_state.specs.Looking.{Ends, Looks, Refuses, MayLook}
use Rattle.source_state.proofs.Drawing.{next_consistent}
use Rattle.source_state.proofs.Lists.{none_not_some}
use Rattle.query_core.specs.Methods.{run_with}
use Rattle.query_core.specs.Machines.{method_of, state_of, MakesItsRun}
use Rattle.query_core.specs.Driving.{Continues, IsFedFrom}
use Rattle.query_core.proofs.Feeding.{continues_same, row_took, grade_took}
use Rattle.query_run.specs.declared.ended.Refusal.{Refusal}
use Rattle.query_run.specs.declared.ended.Refusal.TheVariants as refusal
use Rattle.query_run.specs.declared.running_query.RunningQuery.{RunningQuery}
use Rattle.query_run.specs.Histories.{HasHistory}
use Rattle.query_run.specs.Inquiries.{logs_of, told_to, needed, list_needed, source_of, source_needed, is_done, is_ended}
use Rattle.query_run.specs.Causes.{RowLacksRoom, LacksRoom, IsOfList, IsCause, IsRefusedForCause, CanNotBeHad}
use Rattle.query_run.specs.Turns.{MayFeed, RowTaken, Answers, Turns}
use Rattle.query_run.specs.Kept.{IsSourceOf, HasSources, IsServed}
use Rattle.query_run.proofs.Events.{Moved, goes_same, look_moved}
use Rattle.query_run.proofs.Causes.{rows_begin, known_more, IsLater, cause_stays, IsRowOf, row_decided, IsGradeAt, grade_decided, refusal_cause}

-- the states later on
pub record AreLater (states laters : List State) : Type 0 where
  pub long : length laters ≡ length states
  pub each : (source : ℕ) → source < length states → IsLater (state_at states source) (state_at laters source)

pub sound_at : (states : List State) (source : ℕ) → All IsSound states → source < length states → IsSound (state_at states source)
sound_at states source sound l = member_of_all IsSound states (state_at states source) sound (contains_at states source _ l)

pub history_at : (states : List State) (source : ℕ) → All HasHistory states → source < length states → HasHistory (state_at states source)
history_at states source histories l = member_of_all HasHistory states (state_at states source) histories (contains_at states source _ l)

pub state_set : (states : List State) (source : ℕ) (u : State) → source < length states → state_at (slice_set states source u) source ≡ u
state_set states source u l = get_or-set_same states source u _ l

pub state_other : (states : List State) (source other : ℕ) (u : State) → other ≢ source → state_at (slice_set states source u) other ≡ state_at states other
state_other states source other u apart = get_or-set_other states source other u _ apart

later_same : (s : State) → IsSound s → IsLater s s
later_same s sound = record { goes = goes_same s; fits = sound.fits }

pub later_moved : (s u : State) → Moved s u → IsLater s u
later_moved s u moved = record { goes = moved.goes; fits = moved.sound.fits }

pub later_set : (states : List State) (source : ℕ) (u : State) → All IsSound states → source < length states → IsLater (state_at states source) u
    → AreLater states (slice_set states source u)
later_set states source u sound l later = record {
  long = length-set states source u;
  each = λ other m. elim (eqb_tells other source) [
    | inl t ↦ subst (λ o. IsLater (state_at states o) (state_at (slice_set states source u) o)) (sym t.1) (subst (IsLater (state_at states source)) (sym (state_set states source u l)) later)
    | inr f ↦ subst (IsLater (state_at states other)) (sym (state_other states source other u f.1)) (later_same (state_at states other) (sound_at states other sound m))
  ];
}

-- what the logs of a query's sources tell of a list
pub rows_told : (states : List State) (sources : List ℕ) (list : ℕ) → list < length sources
    → list_at (map rows_in (logs_of states sources)) list ≡ rows_in (state_at states (slice_index_or sources list 0)).log
rows_told states [] list l = absurd (omega arith)
rows_told states (source ∷ sources) zero l = refl
rows_told states (source ∷ sources) (suc list) l = rows_told states sources list (omega arith)

pub known_told : (states : List State) (sources : List ℕ) (list : ℕ) → list < length sources
    → list_at (map (λ log. rows_in log ++ graded_in log) (logs_of states sources)) list ≡ rows_in (state_at states (slice_index_or sources list 0)).log ++ graded_in (state_at states (slice_index_or sources list 0)).log
known_told states [] list l = absurd (omega arith)
known_told states (source ∷ sources) zero l = refl
known_told states (source ∷ sources) (suc list) l = known_told states sources list (omega arith)

told_grows : (states laters : List State) (sources : List ℕ) → AreLater states laters
    → ((list : ℕ) → list < length sources → slice_index_or sources list 0 < length states)
    → Grows (length sources) (told_by (logs_of states sources)) (told_by (logs_of laters sources))
told_grows states laters sources later within = record {
  rows = λ list l.
      let b = (later.each (slice_index_or sources list 0) (within list l)).goes.grows.log in
      subst (λ rows. Rattle.topk_theory.specs.Transcript.Begins rows (list_at (map rows_in (logs_of laters sources)) list)) (sym (rows_told states sources list l))
      (subst (Rattle.topk_theory.specs.Transcript.Begins (rows_in (state_at states (slice_index_or sources list 0)).log)) (sym (rows_told laters sources list l))
      (rows_begin (state_at states (slice_index_or sources list 0)).log (state_at laters (slice_index_or sources list 0)).log b));
  known = λ list l row c.
      let b = (later.each (slice_index_or sources list 0) (within list l)).goes.grows.log in
      subst (λ rows. Contains rows row) (sym (known_told laters sources list l))
      (known_more (state_at states (slice_index_or sources list 0)).log (state_at laters (slice_index_or sources list 0)).log row b
      (subst (λ rows. Contains rows row) (known_told states sources list l) c));
}

-- the source of a list is there, and so is that of a need
pub source_at : (states : List State) (q : RunningQuery) (list : ℕ) → HasSources states q → list < length q.sources.items
    → IsSourceOf states (state_of q.machine).log.count (source_of q list)
source_at states q list h l = h.each list 0 l

list_in_range : (t : MachineState) (n : Need) → IsInRange t.log n → is_done n ≡ false → list_needed n < t.log.lists
list_in_range t (need.Row list depth) range going = range.listed
list_in_range t (need.Grade list object) range going = range
list_in_range t need.Done range going = absurd (cc)

pub listed : (states : List State) (q : RunningQuery) → HasSources states q → MakesItsRun q.machine → is_done (needed q) ≡ false
    → list_needed (needed q) < length q.sources.items
listed states q sources run going =
    let range = list_in_range (state_of q.machine) (needed q) (in_range (run_with (method_of q.machine)) (state_of q.machine) run) going in
    omega (arith, range, sources.many)

pub source_there : (states : List State) (q : RunningQuery) → HasSources states q → MakesItsRun q.machine → is_done (needed q) ≡ false
    → IsSourceOf states (state_of q.machine).log.count (source_needed q)
source_there states q sources run going = source_at states q (list_needed (needed q)) sources (listed states q sources run going)

-- a cause is of a need
lacks_some : (s : State) (t : MachineState) (n : Need) (object : ℕ) → RowLacksRoom s t n object → is_done n ≡ false
lacks_some s t (need.Row list depth) object h = refl
lacks_some s t (need.Grade list named) object h = refl
lacks_some s t need.Done object h = absurd h

pub of_some_list : (list : ℕ) (n : Need) → IsOfList list n → is_done n ≡ false
of_some_list list (need.Row other depth) h = refl
of_some_list list (need.Grade other object) h = refl
of_some_list list need.Done h = absurd h

cause_on : (states laters : List State) (q : RunningQuery) (refused : Option Refusal) → AreLater states laters
    → (is_done (needed q) ≡ false → source_needed q < length states)
    → IsCause (state_at states (source_needed q)) (state_of q.machine) q.waiting.noted refused → IsCause (state_at laters (source_needed q)) (state_of q.machine) q.waiting.noted refused
cause_on states laters q None later there h = tt
cause_on states laters q (Some (refusal.Core (Strangers object count))) later there h =
    cause_stays (state_at states (source_needed q)) (state_at laters (source_needed q)) (state_of q.machine) q.waiting.noted (Some (refusal.Core (Strangers object count)))
    (later.each (source_needed q) (there (lacks_some (state_at states (source_needed q)) (state_of q.machine) (needed q) object h.0))) h
cause_on states laters q (Some (refusal.Core (RoomFull room))) later there h =
    cause_stays (state_at states (source_needed q)) (state_at laters (source_needed q)) (state_of q.machine) q.waiting.noted (Some (refusal.Core (RoomFull room)))
    (later.each (source_needed q) (there (lacks_some (state_at states (source_needed q)) (state_of q.machine) (needed q) h.0.0 h.0.1))) h
cause_on states laters q (Some (refusal.Look list fault)) later there h =
    cause_stays (state_at states (source_needed q)) (state_at laters (source_needed q)) (state_of q.machine) q.waiting.noted (Some (refusal.Look list fault))
    (later.each (source_needed q) (there (of_some_list list (needed q) h.0))) h

-- the sources of a query, with a machine that goes on
sources_on : (states laters : List State) (q r : RunningQuery) → AreLater states laters → HasSources states q → r.sources.items ≡ q.sources.items
    → Continues (state_of q.machine) (state_of r.machine) → HasSources laters r
sources_on states laters q r later h same goes = record {
  many = ap (length {A = ℕ}) same ∙ h.many ∙ sym goes.lists;
  each = subst (All (IsSourceOf laters (state_of r.machine).log.count)) (sym same)
      (subst (λ n. All (IsSourceOf laters n) q.sources.items) (sym goes.count)
      (λ k d l. let is = h.each k d l in (omega (arith, is.0, later.long), ap (λ p. p.1) (later.each (slice_index_or q.sources.items k d) is.0).goes.grows.name ∙ is.1)));
}

-- what a query was fed from goes on
fed_on : (states laters : List State) (q r : RunningQuery) → AreLater states laters → HasSources states q → r.sources.items ≡ q.sources.items
    → Continues (state_of q.machine) (state_of r.machine) → IsFedFrom (told_to states q) (state_of r.machine)
    → IsFedFrom (told_to laters r) (state_of r.machine)
fed_on states laters q r later h same goes fed =
    let grows = told_grows states laters q.sources.items later (λ list l. (source_at states q list h l).0) in
    let many : length q.sources.items ≡ (state_of r.machine).log.lists = h.many ∙ sym goes.lists in
    record {
      drawn = subst (λ sources. Rattle.topk_theory.specs.Transcript.IsDrawn (state_of r.machine).log.lists (told_by (logs_of laters sources)) (state_of r.machine).log.accesses) (sym same)
          (drawn_more (state_of r.machine).log.lists (told_to states q) (told_to laters q) (state_of r.machine).log.accesses (subst (λ m. Grows m (told_to states q) (told_to laters q)) many grows) fed.drawn);
      roomy = fed.roomy;
    }

-- later states serve a query as it is
pub served_stays : (states laters : List State) (q : RunningQuery) → AreLater states laters → IsServed states q → IsServed laters q
served_stays states laters q later h = record {
  sources = sources_on states laters q q later h.sources refl (continues_same (state_of q.machine));
  run = h.run;
  drawn = fed_on states laters q q later h.sources refl (continues_same (state_of q.machine)) h.drawn;
  waits = h.waits;
  cause = cause_on states laters q q.refusal later (λ going. (source_there states q h.sources h.run going).0) h.cause;
}

-- a query that hasn't ended isn't refused and needs something

pub open_parts : (q : RunningQuery) → is_ended q ≡ false → (q.refusal ≡ None) × (is_done (needed q) ≡ false)
open_parts q e = let parts = or_parts (is_some q.refusal) (is_done (needed q)) e in (none_unless_some q.refusal parts.0, parts.1)

-- its need may be looked for
may_look_for : (t : MachineState) (n : Need) (s : State) → IsInRange t.log n → is_done n ≡ false → s.count ≡ t.log.count → MayLook s n
may_look_for t (need.Row list depth) s range going count = let within = range.within in (range.from_one, omega (arith, within, count))
may_look_for t (need.Grade list object) s range going count = tt
may_look_for t need.Done s range going count = absurd (cc)

pub may_look : (states : List State) (q : RunningQuery) → IsServed states q → is_done (needed q) ≡ false → MayLook (state_at states (source_needed q)) (needed q)
may_look states q h going =
    may_look_for (state_of q.machine) (needed q) (state_at states (source_needed q)) (in_range (run_with (method_of q.machine)) (state_of q.machine) h.run) going (source_there states q h.sources h.run going).1

-- the logs of a query's sources are sound
pub logs_sound : (states : List State) (q : RunningQuery) → All IsSound states → HasSources states q → All IsSomeSound (logs_of states q.sources.items)
logs_sound states q sound h =
    all_from_members IsSomeSound (logs_of states q.sources.items)
    (λ log c.
    let from = contains_map_from (λ source. (state_at states source).log) q.sources.items log c in
    let is = member_of_all (IsSourceOf states (state_of q.machine).log.count) q.sources.items from.0 h.each from.1 in
    let s = state_at states from.0 in
    subst IsSomeSound from.2 (record { count = s.count; asks = s.asks; sound = (sound_at states from.0 sound is.0).log }))

-- the row and the grade that are told of a need
row_there : (states : List State) (q : RunningQuery) (row : Row) → HasSources states q → MakesItsRun q.machine
    → (is : IsRowOf (state_at states (source_needed q)) (needed q) row) → slice_get (list_at (told_to states q).rows is.list) (is.depth - 1) ≡ Some row
row_there states q row h run is =
    let list = is.list in
    let going : is_done (needed q) ≡ false = ap is_done is.is in
    let within : list < length q.sources.items = subst (λ n. list_needed n < length q.sources.items) is.is (listed states q h run going) in
    let source : source_needed q ≡ source_of q list = ap (λ n. source_of q (list_needed n)) is.is in
    ap (λ (rows : List Row). slice_get rows (is.depth - 1)) (rows_told states q.sources.items list within ∙ ap (λ s. rows_in (state_at states s).log) (sym source)) ∙ is.there

grade_there : (states : List State) (q : RunningQuery) (grade : ℕ) → HasSources states q → MakesItsRun q.machine
    → (is : IsGradeAt (state_at states (source_needed q)) (needed q) grade)
    → Contains (list_at (told_to states q).known is.list) (record { object = is.object; grade = grade })
grade_there states q grade h run is =
    let list = is.list in
    let going : is_done (needed q) ≡ false = ap is_done is.is in
    let within : list < length q.sources.items = subst (λ n. list_needed n < length q.sources.items) is.is (listed states q h run going) in
    let source : source_needed q ≡ source_of q list = ap (λ n. source_of q (list_needed n)) is.is in
    let row : Row = record { object = is.object; grade = grade } in
    subst (λ rows. Contains rows row) (sym (known_told states q.sources.items list within)) (subst (λ s. Contains (rows_in (state_at states s).log ++ graded_in (state_at states s).log) row) source is.known)

-- what a look answers may be fed
row_may : (states : List State) (q : RunningQuery) (row : Row) → All IsSound states → IsServed states q → IsRowOf (state_at states (source_needed q)) (needed q) row
    → MayBeNextRow (state_of q.machine).log (needed q) row
row_may states q row sound h is =
    let t = state_of q.machine in
    let range : IsNextRow t.log is.list is.depth = subst (IsInRange t.log) is.is (in_range (run_with (method_of q.machine)) t h.run) in
    let place : is.depth - 1 ≡ depth_of is.list t.log.accesses = let next = range.next in omega (arith, next) in
    let there = row_there states q row h.sources h.run is in
    let gives : Gives (told_to states q) t.log.accesses (Sorted is.list row.object row.grade) = ap (slice_get (list_at (told_to states q).rows is.list)) (sym place) ∙ there in
    subst (λ n. MayBeNextRow t.log n row) (sym is.is)
    (λ kind of. next_consistent t.log.lists t.log.count (logs_of states q.sources.items) t.log.accesses (Sorted is.list row.object row.grade) kind (logs_sound states q sound h.sources) h.drawn.drawn range.listed gives of)

grade_may : (states : List State) (q : RunningQuery) (grade : ℕ) → All IsSound states → IsServed states q
    → IsGradeAt (state_at states (source_needed q)) (needed q) grade → MayBeNextGrade (state_of q.machine).log (needed q) grade
grade_may states q grade sound h is =
    let t = state_of q.machine in
    let range : is.list < t.log.lists = subst (IsInRange t.log) is.is (in_range (run_with (method_of q.machine)) t h.run) in
    let seen : Contains (seen_objects t.log.accesses) is.object = subst (IsOfSeen t.log) is.is h.run.tame in
    let named = seen_is_named t.log.accesses is.object seen in
    let known = grade_there states q grade h.sources h.run is in
    subst (λ n. MayBeNextGrade t.log n grade) (sym is.is)
    (λ kind of.
    let many = next_consistent t.log.lists t.log.count (logs_of states q.sources.items) t.log.accesses (Random is.list is.object grade) kind (logs_sound states q sound h.sources) h.drawn.drawn range known of in
    let too_many : IsOfKind t.log.lists t.log.count t.log.accesses (Random is.list is.object grade) too_many_objects = subst (IsOfKind t.log.lists t.log.count t.log.accesses (Random is.list is.object grade)) many of in
    too_many.1 named)

pub may_feed : (states : List State) (q : RunningQuery) (u : State) (left : Waiting) (answer : Look) → All IsSound states → IsServed states q
    → Looks (needed q) (state_at states (source_needed q)) u q.waiting left answer → MayFeed (state_of q.machine) answer
may_feed states q u left (look.Row row) sound h looks = row_may states q row sound h (row_decided (state_at states (source_needed q)) (needed q) row looks.decides)
may_feed states q u left (look.Grade grade) sound h looks = grade_may states q grade sound h (grade_decided (state_at states (source_needed q)) (needed q) grade looks.decides)
may_feed states q u left look.NotYet sound h looks = tt
may_feed states q u left (look.Fault fault) sound h looks = tt

-- what a query has after the answer of a look: its machine goes on and is fed from the same logs, it waits for its need alone, and where it is refused its machine stays and there is a cause
pub record Went (states : List State) (q r : RunningQuery) : Type 0 where
  pub goes : Continues (state_of q.machine) (state_of r.machine)
  pub fed : IsFedFrom (told_to states q) (state_of r.machine)
  pub waits : (n : Need) → r.waiting.need ≡ Some n → n ≡ needed r
  pub cause : (r.refusal ≡ None) ⊎ ((state_of r.machine ≡ state_of q.machine)
      × IsCause (state_at states (source_needed q)) (state_of r.machine) r.waiting.noted r.refusal)

over_waits : (s u : State) (q r : RunningQuery) (n : Need) → Ends s u q.waiting r.waiting → r.waiting.need ≡ Some n → n ≡ needed r
over_waits s u q r n ends e = absurd (none_not_some (sym (ap (λ (w : Waiting). w.need) ends.over) ∙ e))

over_noted : (s u : State) (q r : RunningQuery) → Ends s u q.waiting r.waiting → r.waiting.noted ≡ q.waiting.noted
over_noted s u q r ends = ap (λ (w : Waiting). w.noted) ends.over

same_goes : (t u : MachineState) → u ≡ t → Continues t u
same_goes t u e = subst (Continues t) (sym e) (continues_same t)

-- a row, by what becomes of it
lacks_room : (states : List State) (q : RunningQuery) (row : Row) (object : ℕ) → IsRowOf (state_at states (source_needed q)) (needed q) row → row.object ≡ object
    → (¬ HasRoomFor (state_of q.machine) row.object) → RowLacksRoom (state_at states (source_needed q)) (state_of q.machine) (needed q) object
lacks_room states q row object is named full =
    subst (λ n. RowLacksRoom (state_at states (source_needed q)) (state_of q.machine) n object) (sym is.is)
    (row, is.there, named, subst (λ o. ¬ HasRoomFor (state_of q.machine) o) named full)

refused_row : (states : List State) (q r : RunningQuery) (u : State) (fault : CoreFault) → IsServed states q
    → Ends (state_at states (source_needed q)) u q.waiting r.waiting → r.refusal ≡ Some (refusal.Core fault) → state_of r.machine ≡ state_of q.machine
    → LacksRoom (state_at states (source_needed q)) (state_of q.machine) fault → Went states q r
refused_row states q r u fault h ends e same lacks = record {
  goes = same_goes (state_of q.machine) (state_of r.machine) same;
  fed = subst (IsFedFrom (told_to states q)) (sym same) h.drawn;
  waits = λ n w. over_waits (state_at states (source_needed q)) u q r n ends w;
  cause = inr (same, subst (λ o. IsCause (state_at states (source_needed q)) (state_of r.machine) r.waiting.noted o) (sym e) (subst (λ t. LacksRoom (state_at states (source_needed q)) t fault) (sym same) lacks));
}

row_went : (states : List State) (q r : RunningQuery) (u : State) (row : Row) (refused : Option Refusal) → IsServed states q
    → Ends (state_at states (source_needed q)) u q.waiting r.waiting → IsRowOf (state_at states (source_needed q)) (needed q) row → r.refusal ≡ refused
    → RowTaken row q r refused → Went states q r
row_went states q r u row None h ends is e taken =
    let t = state_of q.machine in
    let took = row_took (method_of q.machine) (told_to states q) t (state_of r.machine) is.list is.depth row h.drawn h.run is.is (row_there states q row h.sources h.run is) taken.0 taken.1 in
    record { goes = took.goes; fed = took.fed; waits = λ n w. over_waits (state_at states (source_needed q)) u q r n ends w; cause = inl e }
row_went states q r u row (Some (refusal.Core (Strangers object count))) h ends is e taken =
    refused_row states q r u (Strangers object count) h ends e taken.4 (lacks_room states q row object is (sym taken.2) taken.0, taken.1, taken.3)
row_went states q r u row (Some (refusal.Core (RoomFull room))) h ends is e taken =
    refused_row states q r u (RoomFull room) h ends e taken.3 ((row.object, lacks_room states q row row.object is refl taken.0), taken.1, taken.2)
row_went states q r u row (Some (refusal.Look list fault)) h ends is e taken = absurd taken

-- a grade
grade_went : (states : List State) (q r : RunningQuery) (u : State) (grade : ℕ) → IsServed states q → Ends (state_at states (source_needed q)) u q.waiting r.waiting
    → IsGradeAt (state_at states (source_needed q)) (needed q) grade → r.refusal ≡ None
    → Takes (grade_access (needed q) grade) (state_of q.machine) (state_of r.machine) → Went states q r
grade_went states q r u grade h ends is e takes =
    let t = state_of q.machine in
    let took = grade_took (method_of q.machine) (told_to states q) t (state_of r.machine) is.list is.object grade h.drawn h.run is.is (grade_there states q grade h.sources h.run is) takes in
    record { goes = took.goes; fed = took.fed; waits = λ n w. over_waits (state_at states (source_needed q)) u q r n ends w; cause = inl e }

-- a machine that stays
pub stays_state : (q r : RunningQuery) → r.machine ≡ q.machine → state_of r.machine ≡ state_of q.machine
stays_state q r same = ap state_of same

pub own_list : (n : Need) → is_done n ≡ false → IsOfList (list_needed n) n
own_list (need.Row list depth) going = refl
own_list (need.Grade list object) going = refl
own_list need.Done going = absurd (cc)

pub fault_ends : (n : Need) (s u : State) (waiting left : Waiting) (fault : LookFault) → Refuses n s u waiting left fault → Ends s u waiting left
fault_ends n s u waiting left (why.Source fault) h = h.ends
fault_ends n s u waiting left (why.Missing object) h = h.ends
fault_ends n s u waiting left (why.AsksFull kept) h = h.ends
fault_ends n s u waiting left (why.Call what) h = h.ends

-- any answer
pub went : (states : List State) (q r : RunningQuery) (u : State) (answer : Look) → IsServed states q → is_done (needed q) ≡ false
    → Looks (needed q) (state_at states (source_needed q)) u q.waiting r.waiting answer → Answers q r answer → Went states q r
went states q r u (look.Row row) h going looks answers =
    row_went states q r u row r.refusal h looks.ends (row_decided (state_at states (source_needed q)) (needed q) row looks.decides) refl answers
went states q r u (look.Grade grade) h going looks answers =
    grade_went states q r u grade h looks.ends (grade_decided (state_at states (source_needed q)) (needed q) grade looks.decides) answers.0 answers.1
went states q r u look.NotYet h going looks answers =
    let same = stays_state q r answers.1 in
    record {
      goes = same_goes (state_of q.machine) (state_of r.machine) same;
      fed = subst (IsFedFrom (told_to states q)) (sym same) h.drawn;
      waits = λ n w. elim looks.waits [
        | inl on ↦ h.waits n (sym (ap (λ (v : Waiting). v.need) on.goes_on) ∙ w) ∙ ap (λ (t : MachineState). t.need) (sym same)
        | inr begins ↦ let is : Some (needed q) ≡ Some n = sym (ap (λ (v : Waiting). v.need) begins.notes) ∙ w in let one : needed q ≡ n = cc in sym one ∙ ap (λ (t : MachineState). t.need) (sym same)
      ];
      cause = inl answers.0;
    }
went states q r u (look.Fault fault) h going looks answers =
    let same = stays_state q r answers.1 in
    let s = state_at states (source_needed q) in
    let ends = fault_ends (needed q) s u q.waiting r.waiting fault looks in
    let had : CanNotBeHad s (needed q) r.waiting.noted fault = subst (λ noted. CanNotBeHad s (needed q) noted fault) (sym (over_noted s u q r ends)) (refusal_cause (needed q) s u q.waiting r.waiting fault looks) in
    record {
      goes = same_goes (state_of q.machine) (state_of r.machine) same;
      fed = subst (IsFedFrom (told_to states q)) (sym same) h.drawn;
      waits = λ n w. over_waits s u q r n ends w;
      cause = inr (
        same,
        subst (λ o. IsCause s (state_of r.machine) r.waiting.noted o) (sym answers.0)
            (subst (λ t. IsCause s t r.waiting.noted (Some (refusal.Look (list_needed (needed q)) fault))) (sym same) (own_list (needed q) going, had)),
      );
    }

-- a turn
pub record Turned (states laters : List State) (q r : RunningQuery) : Type 0 where
  pub moved : (u : State) × (source_needed q < length states) × Moved (state_at states (source_needed q)) u × (laters ≡ slice_set states (source_needed q) u)
  pub later : AreLater states laters
  pub goes : Continues (state_of q.machine) (state_of r.machine)
  pub served : IsServed laters r

pub turned : (states laters : List State) (q r : RunningQuery) → All IsSound states → All HasHistory states → IsServed states q → is_ended q ≡ false
    → Turns states laters q r → Turned states laters q r
turned states laters q r sound histories h going turns =
    let parts = open_parts q going in
    let source = source_needed q in
    let s = state_at states source in
    let u = turns.state in
    let there = source_there states q h.sources h.run parts.1 in
    let moved = look_moved (needed q) s u q.waiting r.waiting turns.answer (sound_at states source sound there.0) (history_at states source histories there.0) (may_look states q h parts.1) turns.looks in
    let later_u : IsLater s u = later_moved s u moved in
    let later : AreLater states laters = subst (AreLater states) (sym turns.others) (later_set states source u sound there.0 later_u) in
    let w = went states q r u turns.answer h parts.1 turns.looks turns.answers in
    record {
      moved = (u, there.0, moved, turns.others);
      later = later;
      goes = w.goes;
      served = record {
        sources = sources_on states laters q r later h.sources turns.sources w.goes;
        run = turns.run;
        drawn = fed_on states laters q r later h.sources turns.sources w.goes w.fed;
        waits = w.waits;
        cause = elim w.cause [
          | inl none ↦ subst (λ o. IsCause (state_at laters (source_needed r)) (state_of r.machine) r.waiting.noted o) (sym none) tt
          | inr cause ↦ cause_at states laters q r u later_u turns.others there.0 turns.sources cause.0 cause.1
        ];
      };
    }
  where
    cause_at : (states laters : List State) (q r : RunningQuery) (u : State) → IsLater (state_at states (source_needed q)) u
        → laters ≡ slice_set states (source_needed q) u → source_needed q < length states → r.sources.items ≡ q.sources.items
        → state_of r.machine ≡ state_of q.machine
        → IsCause (state_at states (source_needed q)) (state_of r.machine) r.waiting.noted r.refusal → IsRefusedForCause laters r
    cause_at states laters q r u later others l sources same cause =
        let source : source_needed r ≡ source_needed q = ap (λ (xs : List ℕ). slice_index_or xs (list_needed (needed r)) 0) sources ∙ ap (λ (t : MachineState). source_of q (list_needed t.need)) same in
        let there : state_at laters (source_needed r) ≡ u = ap (state_at laters) source ∙ ap (λ ss. state_at ss (source_needed q)) others ∙ state_set states (source_needed q) u l in
        subst (λ v. IsCause v (state_of r.machine) r.waiting.noted r.refusal) (sym there)
        (cause_stays (state_at states (source_needed q)) u (state_of r.machine) r.waiting.noted r.refusal later cause)
