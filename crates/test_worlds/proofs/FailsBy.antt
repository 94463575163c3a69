-- A fail that refuses a query came after its own want or ask.
use Rattle.std.proofs.Common.{◌≡◌, ◌<◌, ◌⊎◌, inl, inr, ℕ, true, false, cond, Option, Some, None, List, [], ◌∷◌, ◌++◌, length, slice_get, slice_index_or, Contains, refl, sym, ap, subst, ◌∙◌, arith, append_assoc, append-nil}
use Rattle.std.proofs.lemmas.Bool.{cases_Bool}
use Rattle.std.proofs.lemmas.Bool.Decides.{eqb_tells}
use Rattle.std.proofs.lemmas.List.Elements.{Contains-append_left, Contains-append_right}
use Rattle.std.proofs.lemmas.Option.{same_Some}
use Rattle.ranked_list.specs.declared.row.Row.{Row}
use Rattle.ranked_list.specs.declared.need.Need.{Need}
use Rattle.ranked_list.specs.declared.need.Need.TheVariants as need
use Rattle.turn_lock.specs.declared.facts.Tally.{Tally}
use Rattle.topk_theory.proofs.AgreementLists.{member_of_all, contains_here, slice_get_contains, slice_get_in_range}
use Rattle.containers.proofs.Getting.{get_set_same, get_set_other}
use Rattle.machine_base.specs.Machine.{MachineState}
use Rattle.source_api.specs.declared.source.FailKind.{FailKind}
use Rattle.source_api.specs.declared.source.FailKind.TheVariants as kind
use Rattle.source_state.specs.declared.event.Event.{Event}
use Rattle.source_state.specs.declared.event.Event.TheVariants as event
use Rattle.source_state.specs.declared.look.Waiting.{Waiting}
use Rattle.source_state.specs.declared.look.Look.{Look}
use Rattle.source_state.specs.declared.look.Look.TheVariants as look
use Rattle.source_state.specs.declared.look.LookFault.{LookFault}
use Rattle.source_state.specs.declared.look.LookFault.TheVariants as why
use Rattle.source_state.specs.declared.entry.LogEntry.TheVariants as entry
use Rattle.source_state.specs.declared.entry.SourceFault.{SourceFault}
use Rattle.source_state.specs.Log.{rows_in}
use Rattle.source_state.specs.State.{State, asks_of, row_fault, state_at}
use Rattle.source_state.specs.Events.{logged, with_rows, row_or, moved, after}
use Rattle.source_state.specs.Looking.{waits_for, newer, told, called, Refuses, IsFailTold, Looks}
use Rattle.source_state.proofs.Lists.{none_not_some}
use Rattle.query_core.specs.declared.ready.Ready.{Ready}
use Rattle.query_run.specs.declared.ended.Refusal.TheVariants as refusal
use Rattle.query_run.specs.declared.running_query.RunningQuery.{RunningQuery}
use Rattle.test_worlds.specs.declared.step.Step.{Step}
use Rattle.test_worlds.specs.declared.step.Step.TheVariants.{Page, Grade, Miss, Fail, Move, Turn}
use Rattle.query_run.specs.Inquiries.{needed, list_needed, source_of, source_needed}
use Rattle.test_worlds.specs.Worlds.{WorldState}
use Rattle.query_run.specs.Causes.{HasFailed}
use Rattle.query_run.specs.Turns.{RowTaken, Answers}
use Rattle.test_worlds.specs.Steps.{with_event, MayStep, TakesTurn, Steps}
use Rattle.query_run.specs.Kept.{IsServed}
use Rattle.test_worlds.specs.Kept.{IsWorld}
use Rattle.query_run.specs.Made.{IsFresh}
use Rattle.test_worlds.specs.Made.{IsMade}
use Rattle.test_worlds.specs.Runs.{Runs}
use Rattle.test_worlds.specs.Fails.{BeginsToWait, IsToldOfFail}
use Rattle.query_run.proofs.Causes.{told_failed}
use Rattle.query_run.proofs.Serving.{state_set, state_other, open_parts, fault_ends, stays_state}
use Rattle.query_run.proofs.Lists.{zip_member}
use Rattle.test_worlds.proofs.Stepping.{stepped, turn_of, open_query}

-- one more step of a run
runs_push : (w v : WorldState) (first : WorldState) (steps : List Step) (step : Step) → Runs first steps w → MayStep w step → Steps step w v
    → Runs first (steps ++ step ∷ []) v
runs_push w v first [] step ran may does = (v, subst (λ u. MayStep u step) ran may, subst (λ u. Steps step u v) ran does, refl)
runs_push w v first (one ∷ steps) step ran may does = (ran.0, ran.1, ran.2, runs_push w v ran.0 steps step ran.3 may does)

-- a query that waits for a need began to, and the fails that came since are among the steps since
record Waits (first : WorldState) (steps : List Step) (w : WorldState) (query : ℕ) (q : RunningQuery) (n : Need) : Type 0 where
  earlier : List Step
  later : List Step
  order : steps ≡ earlier ++ Turn query ∷ later
  before : WorldState
  after : WorldState
  ran : Runs first earlier before
  begins : BeginsToWait query n before after
  goes : Runs after later w
  since : (what : FailKind) → (HasFailed what q.waiting.noted (state_at w.states (source_needed q)).tally → ⊥) ⊎ Contains later (Fail (source_needed q) what)

-- what is known of a query after some steps
record Known (first : WorldState) (steps : List Step) (w : WorldState) (query : ℕ) (q : RunningQuery) : Type 0 where
  waits : (n : Need) → q.waiting.need ≡ Some n → Waits first steps w query q n
  refused : (list : ℕ) (what : FailKind) → q.refusal ≡ Some (refusal.Look list (why.Call what)) → IsToldOfFail first steps w query list what

abbrev AllKnown : WorldState → List Step → WorldState → Type 0
AllKnown first steps w = (query : ℕ) (q : RunningQuery) → slice_get w.queries query ≡ Some q → Known first steps w query q

-- one more step
longer : (front : List Step) (mid : Step) (back : List Step) (step : Step) (steps : List Step) → steps ≡ front ++ mid ∷ back
    → steps ++ step ∷ [] ≡ front ++ mid ∷ (back ++ step ∷ [])
longer front mid back step steps e = ap (λ xs. xs ++ step ∷ []) e ∙ append_assoc front (mid ∷ back) (step ∷ [])

told_longer : (first : WorldState) (steps : List Step) (w v : WorldState) (query list : ℕ) (what : FailKind) (step : Step) → MayStep w step → Steps step w v
    → IsToldOfFail first steps w query list what
    → IsToldOfFail first (steps ++ step ∷ []) v query list what
told_longer first steps w v query list what step may does h = record {
  front = h.front;
  rest = h.rest ++ step ∷ [];
  order = longer h.front (Turn query) h.rest step steps h.order;
  before = h.before;
  after = h.after;
  ran = h.ran;
  turn = h.turn;
  goes = runs_push w v h.after h.rest step h.goes may does;
  unrefused = h.unrefused;
  refused = h.refused;
  since = h.since;
}

-- what a step may tell of fails at a source: no more than before, or it is such a fail
abbrev TellsNoMore : State → State → Step → ℕ → Type 0
TellsNoMore s t step source = (what : FailKind) → ((noted : Tally) → HasFailed what noted t.tally → HasFailed what noted s.tally) ⊎ (step ≡ Fail source what)

waits_longer : (first : WorldState) (steps : List Step) (w v : WorldState) (query : ℕ) (q : RunningQuery) (n : Need) (step : Step) → MayStep w step → Steps step w v
    → TellsNoMore (state_at w.states (source_needed q)) (state_at v.states (source_needed q)) step (source_needed q)
    → Waits first steps w query q n → Waits first (steps ++ step ∷ []) v query q n
waits_longer first steps w v query q n step may does more h = record {
  earlier = h.earlier;
  later = h.later ++ step ∷ [];
  order = longer h.earlier (Turn query) h.later step steps h.order;
  before = h.before;
  after = h.after;
  ran = h.ran;
  begins = h.begins;
  goes = runs_push w v h.after h.later step h.goes may does;
  since = λ what. elim (h.since what) [
    | inr c ↦ inr (Contains-append_left h.later (step ∷ []) (Fail (source_needed q) what) c)
    | inl none ↦ elim (more what) [
      | inl fewer ↦ inl (λ failed. none (fewer q.waiting.noted failed))
      | inr is ↦ inr (Contains-append_right h.later (step ∷ []) (Fail (source_needed q) what) (subst (λ s. Contains (s ∷ []) (Fail (source_needed q) what)) (sym is) (contains_here (Fail (source_needed q) what) [])))
    ]
  ];
}

known_longer : (first : WorldState) (steps : List Step) (w v : WorldState) (query : ℕ) (q : RunningQuery) (step : Step) → MayStep w step → Steps step w v
    → TellsNoMore (state_at w.states (source_needed q)) (state_at v.states (source_needed q)) step (source_needed q)
    → Known first steps w query q → Known first (steps ++ step ∷ []) v query q
known_longer first steps w v query q step may does more h = record {
  waits = λ n e. waits_longer first steps w v query q n step may does more (h.waits n e);
  refused = λ list what e. told_longer first steps w v query list what step may does (h.refused list what e);
}

-- the tally after an event
tally_or : (o : Option SourceFault) (s : State) (row : Row) (next : State → State) → ((t : State) → (next t).tally ≡ t.tally)
    → (row_or o s row next).tally ≡ s.tally
tally_or None s row next h = h (logged s (entry.Kept row))
tally_or (Some fault) s row next h = refl

tally_rows : (s : State) (rows : List Row) → (with_rows s rows).tally ≡ s.tally
tally_rows s [] = refl
tally_rows s (row ∷ rows) = tally_or (row_fault (rows_in s.log) (asks_of s) row) s row (λ t. with_rows t rows) (λ t. tally_rows t rows)

same_tally : (s t : State) (step : Step) (source : ℕ) → t.tally ≡ s.tally → TellsNoMore s t step source
same_tally s t step source e what = inl (λ noted h. subst (HasFailed what noted) e h)

fail_tells : (s : State) (source : ℕ) (one : FailKind) → TellsNoMore s (after s (event.Fail one)) (Fail source one) source
fail_tells s source kind.Failed kind.Failed = inr refl
fail_tells s source kind.Failed kind.Garbled = inl (λ noted h. h)
fail_tells s source kind.Failed kind.Memory = inl (λ noted h. h)
fail_tells s source kind.Garbled kind.Failed = inl (λ noted h. h)
fail_tells s source kind.Garbled kind.Garbled = inr refl
fail_tells s source kind.Garbled kind.Memory = inl (λ noted h. h)
fail_tells s source kind.Memory kind.Failed = inl (λ noted h. h)
fail_tells s source kind.Memory kind.Garbled = inl (λ noted h. h)
fail_tells s source kind.Memory kind.Memory = inr refl

page_tally : (s : State) (rows : List Row) → (after s (event.Page rows)).tally ≡ s.tally
page_tally s [] = refl
page_tally s (row ∷ rows) = tally_rows s (row ∷ rows)

move_tally : (s : State) (object : Option ℕ) (fault : SourceFault) → (moved s object fault).tally ≡ s.tally
move_tally s None fault = refl
move_tally s (Some object) fault = refl

-- an event of one source
event_known : (first : WorldState) (steps : List Step) (w : WorldState) (source : ℕ) (e : Event) (step : Step) → source < length w.states → MayStep w step
    → Steps step w (record w { states = with_event w.states source e })
    → TellsNoMore (state_at w.states source) (after (state_at w.states source) e) step source → AllKnown first steps w
    → AllKnown first (steps ++ step ∷ []) (record w { states = with_event w.states source e })
event_known first steps w source e step l may does tells h query q is =
    known_longer first steps w (record w { states = with_event w.states source e }) query q step may does
    (elim (eqb_tells (source_needed q) source) [
      | inl t ↦ subst (λ n. TellsNoMore (state_at w.states n) (state_at (with_event w.states source e) n) step n) (sym t.1)
          (subst (λ u. TellsNoMore (state_at w.states source) u step source) (sym (state_set w.states source (after (state_at w.states source) e) l)) tells)
      | inr f ↦ same_tally (state_at w.states (source_needed q)) (state_at (with_event w.states source e) (source_needed q)) step (source_needed q) (ap (λ (s : State). s.tally) (state_other w.states source (source_needed q) (after (state_at w.states source) e) f.1))
    ])
    (h query q is)

-- a look keeps the tally
called_tally : (s : State) (n : Need) → (called s n).tally ≡ s.tally
called_tally s (need.Row list depth) = refl
called_tally s (need.Grade list object) = refl
called_tally s need.Done = refl

look_tally : (n : Need) (s t : State) (waiting left : Waiting) (answer : Look) → Looks n s t waiting left answer → t.tally ≡ s.tally
look_tally n s t waiting left (look.Row row) h = ap (λ (u : State). u.tally) h.ends.same
look_tally n s t waiting left (look.Grade grade) h = ap (λ (u : State). u.tally) h.ends.same
look_tally n s t waiting left look.NotYet h = elim h.waits [
  | inl on ↦ ap (λ (u : State). u.tally) on.same
  | inr begins ↦ ap (λ (u : State). u.tally) begins.calls ∙ called_tally s n
]
look_tally n s t waiting left (look.Fault fault) h = ap (λ (u : State). u.tally) (fault_ends n s t waiting left fault h).same

-- a fail that is told
refusal_told : (n : Need) (s t : State) (waiting left : Waiting) (what : FailKind) → Refuses n s t waiting left (why.Call what) → IsFailTold n s t waiting left what
refusal_told n s t waiting left what h = h

waited : (o : Option Need) (n : Need) → waits_for o n ≡ true → (m : Need) × (o ≡ Some m)
waited None n e = absurd (cc)
waited (Some m) n e = (m, refl)

told_waits : (waiting : Waiting) (n : Need) (now : Tally) (what : FailKind) → told waiting n now ≡ Some what → waits_for waiting.need n ≡ true
told_waits waiting n now what e = elim (cases_Bool (waits_for waiting.need n)) [
  | inl t ↦ t
  | inr f ↦ absurd (none_not_some (sym (ap (λ b. cond b (newer waiting.noted now) None) f) ∙ e))
]

same_fault : (list other : ℕ) (fault one : LookFault) → Some (refusal.Look list fault) ≡ Some (refusal.Look other one) → fault ≡ one
same_fault list other fault one e = cc

-- the refusal of a turn is that of its look
refusal_is : (q r : RunningQuery) (answer : Look) (list : ℕ) (what : FailKind) → Answers q r answer → r.refusal ≡ Some (refusal.Look list (why.Call what))
    → answer ≡ look.Fault (why.Call what)
refusal_is q r (look.Row row) list what answers e = absurd (subst (RowTaken row q r) e answers)
refusal_is q r (look.Grade grade) list what answers e = absurd (none_not_some (sym answers.0 ∙ e))
refusal_is q r look.NotYet list what answers e = absurd (none_not_some (sym answers.0 ∙ e))
refusal_is q r (look.Fault fault) list what answers e = ap look.Fault (same_fault (list_needed (needed q)) list fault (why.Call what) (sym answers.0 ∙ e))

-- the query that takes the turn
record Turning (first : WorldState) (steps : List Step) (w v : WorldState) (query : ℕ) : Type 0 where
  ran : Runs first steps w
  world : IsWorld w
  may : MayStep w (Turn query)
  turn : TakesTurn query w v
  going : Rattle.query_run.specs.Inquiries.is_ended turn.q ≡ false
  served : IsServed w.states turn.q
  known : Known first steps w query turn.q
  later : state_at v.states (source_needed turn.q) ≡ turn.turns.state

over_none : (waiting left : Waiting) (n : Need) → left ≡ record waiting { need = None } → left.need ≡ Some n → ⊥
over_none waiting left n over e = none_not_some (sym (ap (λ (w : Waiting). w.need) over) ∙ e)

-- it waits for a need after the turn
turn_waits : (first : WorldState) (steps : List Step) (w v : WorldState) (query : ℕ) (t : Turning first steps w v query) (n : Need) (answer : Look)
    → Looks (needed t.turn.q) (state_at w.states (source_needed t.turn.q)) t.turn.turns.state t.turn.q.waiting t.turn.r.waiting answer
    → Answers t.turn.q t.turn.r answer → t.turn.r.waiting.need ≡ Some n → Waits first (steps ++ Turn query ∷ []) v query t.turn.r n
turn_waits first steps w v query t n (look.Row row) looks answers e = absurd (over_none t.turn.q.waiting t.turn.r.waiting n looks.ends.over e)
turn_waits first steps w v query t n (look.Grade grade) looks answers e = absurd (over_none t.turn.q.waiting t.turn.r.waiting n looks.ends.over e)
turn_waits first steps w v query t n (look.Fault fault) looks answers e =
    absurd (over_none t.turn.q.waiting t.turn.r.waiting n (fault_ends (needed t.turn.q) (state_at w.states (source_needed t.turn.q)) t.turn.turns.state t.turn.q.waiting t.turn.r.waiting fault looks).over e)
turn_waits first steps w v query t n look.NotYet looks answers e =
    elim looks.waits [
      | inl on ↦ goes_on on.goes_on
      | inr begins ↦ begun begins.fresh begins.notes
    ]
  where
    q : RunningQuery
    q = t.turn.q

    r : RunningQuery
    r = t.turn.r

    source : source_needed t.turn.r ≡ source_needed t.turn.q
    source = ap (λ (xs : List ℕ). slice_index_or xs (list_needed (needed t.turn.r)) 0) t.turn.turns.sources ∙ ap (λ (m : MachineState). source_of t.turn.q (list_needed m.need)) (stays_state t.turn.q t.turn.r answers.1)

    tally : (state_at v.states (source_needed t.turn.q)).tally ≡ (state_at w.states (source_needed t.turn.q)).tally
    tally = ap (λ (s : State). s.tally) t.later ∙ look_tally (needed t.turn.q) (state_at w.states (source_needed t.turn.q)) t.turn.turns.state t.turn.q.waiting t.turn.r.waiting look.NotYet looks

    goes_on : t.turn.r.waiting ≡ t.turn.q.waiting → Waits first (steps ++ Turn query ∷ []) v query t.turn.r n
    goes_on same =
        let had = waits_longer first steps w v query q n (Turn query) t.may t.turn (same_tally (state_at w.states (source_needed q)) (state_at v.states (source_needed q)) (Turn query) (source_needed q) tally)
        (t.known.waits n (sym (ap (λ (x : Waiting). x.need) same) ∙ e)) in
        record {
          earlier = had.earlier;
          later = had.later;
          order = had.order;
          before = had.before;
          after = had.after;
          ran = had.ran;
          begins = had.begins;
          goes = had.goes;
          since = λ what. subst (λ s. (HasFailed what r.waiting.noted (state_at v.states s).tally → ⊥) ⊎ Contains had.later (Fail s what)) (sym source)
              (subst (λ (x : Waiting). (HasFailed what x.noted (state_at v.states (source_needed q)).tally → ⊥) ⊎ Contains had.later (Fail (source_needed q) what)) (sym same) (had.since what));
        }

    never : (what : FailKind) (noted now : Tally) → noted ≡ now → HasFailed what noted now → ⊥
    never what noted now same failed = self what now (subst (λ x. HasFailed what x now) same failed)
      where
        self : (what : FailKind) (now : Tally) → HasFailed what now now → ⊥
        self kind.Failed now h = omega (arith, h)
        self kind.Garbled now h = omega (arith, h)
        self kind.Memory now h = omega (arith, h)

    begun : waits_for t.turn.q.waiting.need (needed t.turn.q) ≡ false
        → t.turn.r.waiting ≡ record { need = Some (needed t.turn.q); noted = t.turn.turns.state.tally }
        → Waits first (steps ++ Turn query ∷ []) v query t.turn.r n
    begun fresh notes =
        let is : needed q ≡ n = same_Some _ _ (sym (ap (λ (x : Waiting). x.need) notes) ∙ e) in
        let noted : r.waiting.noted ≡ (state_at v.states (source_needed r)).tally = ap (λ (x : Waiting). x.noted) notes ∙ ap (λ (s : State). s.tally) (sym t.later) ∙ ap (λ s. (state_at v.states s).tally) (sym source) in
        record {
          earlier = steps;
          later = [];
          order = refl;
          before = w;
          after = v;
          ran = t.ran;
          begins = record { turn = t.turn; needs = is; fresh = subst (λ m. waits_for q.waiting.need m ≡ false) is fresh; waits = e };
          goes = refl;
          since = λ what. inl (never what r.waiting.noted (state_at v.states (source_needed r)).tally noted);
        }

-- it is refused by the turn for a fail
turn_refused : (first : WorldState) (steps : List Step) (w v : WorldState) (query : ℕ) (t : Turning first steps w v query) (list : ℕ) (what : FailKind)
    → t.turn.r.refusal ≡ Some (refusal.Look list (why.Call what)) → IsToldOfFail first (steps ++ Turn query ∷ []) v query list what
turn_refused first steps w v query t list what e =
    let q = t.turn.q in
    let s = state_at w.states (source_needed q) in
    let is = refusal_is q t.turn.r t.turn.turns.answer list what t.turn.turns.answers e in
    let looks : Looks (needed q) s t.turn.turns.state q.waiting t.turn.r.waiting (look.Fault (why.Call what)) = subst (Looks (needed q) s t.turn.turns.state q.waiting t.turn.r.waiting) is t.turn.turns.looks in
    let tells = (refusal_told (needed q) s t.turn.turns.state q.waiting t.turn.r.waiting what looks).tells in
    let failed = told_failed q.waiting (needed q) s.tally what tells in
    let waits = waited q.waiting.need (needed q) (told_waits q.waiting (needed q) s.tally what tells) in
    let same : waits.0 ≡ needed q = t.served.waits waits.0 waits.1 in
    let h = t.known.waits (needed q) (waits.1 ∙ ap (λ n. Some n) same) in
    record {
      front = steps;
      rest = [];
      order = refl;
      before = w;
      after = v;
      ran = t.ran;
      turn = t.turn;
      goes = refl;
      unrefused = (open_parts q t.going).0;
      refused = e;
      since = record {
        earlier = h.earlier;
        later = h.later;
        order = h.order;
        before = h.before;
        after = h.after;
        ran = h.ran;
        begins = h.begins;
        goes = h.goes;
        fails = elim (h.since what) [ inl none ↦ absurd (none failed) | inr c ↦ c ];
      };
    }

-- a turn
turn_known : (first : WorldState) (steps : List Step) (w v : WorldState) (query : ℕ) → Runs first steps w → IsWorld w → MayStep w (Turn query)
    → TakesTurn query w v → AllKnown first steps w → AllKnown first (steps ++ Turn query ∷ []) v
turn_known first steps w v query ran world may turn h other x is =
    elim (eqb_tells other query) [
      | inl t ↦
          let here : slice_get v.queries query ≡ Some turn.r = ap (λ qs. slice_get qs query) turn.others ∙ get_set_same w.queries query turn.r (slice_get_in_range w.queries query turn.q turn.is) in
          let same : turn.r ≡ x = same_Some _ _ (sym here ∙ ap (slice_get v.queries) (sym t.1) ∙ is) in
          subst (λ n. Known first (steps ++ Turn query ∷ []) v n x) (sym t.1) (subst (Known first (steps ++ Turn query ∷ []) v query) same own)
      | inr f ↦
          let before : slice_get w.queries other ≡ Some x = sym (get_set_other w.queries query other turn.r f.1) ∙ ap (λ qs. slice_get qs other) (sym turn.others) ∙ is in
          known_longer first steps w v other x (Turn query) may turn (same_tally (state_at w.states (source_needed x)) (state_at v.states (source_needed x)) (Turn query) (source_needed x) (tally_at (source_needed x))) (h other x before)
    ]
  where
    done : Rattle.query_run.proofs.Serving.Turned w.states v.states turn.q turn.r
    done = turn_of query w v world may turn

    there : source_needed turn.q < length w.states
    there = done.moved.1

    at_source : state_at v.states (source_needed turn.q) ≡ turn.turns.state
    at_source = ap (λ ss. state_at ss (source_needed turn.q)) turn.turns.others ∙ state_set w.states (source_needed turn.q) turn.turns.state there

    tally_at : (source : ℕ) → (state_at v.states source).tally ≡ (state_at w.states source).tally
    tally_at source = elim (eqb_tells source (source_needed turn.q)) [
      | inl t ↦ subst (λ n. (state_at v.states n).tally ≡ (state_at w.states n).tally) (sym t.1)
          (ap (λ (s : State). s.tally) at_source ∙ look_tally (needed turn.q) (state_at w.states (source_needed turn.q)) turn.turns.state turn.q.waiting turn.r.waiting turn.turns.answer turn.turns.looks)
      | inr f ↦ ap (λ (s : State). s.tally) (ap (λ ss. state_at ss source) turn.turns.others ∙ state_other w.states (source_needed turn.q) source turn.turns.state f.1)
    ]

    turning : Turning first steps w v query
    turning = record {
      ran = ran;
      world = world;
      may = may;
      turn = turn;
      going = open_query (slice_get w.queries query) turn.q turn.is may;
      served = member_of_all (IsServed w.states) w.queries turn.q world.queries (slice_get_contains w.queries query turn.q turn.is);
      known = h query turn.q turn.is;
      later = at_source;
    }

    own : Known first (steps ++ Turn query ∷ []) v query turn.r
    own = record {
      waits = λ n e. turn_waits first steps w v query turning n turn.turns.answer turn.turns.looks turn.turns.answers e;
      refused = λ list what e. turn_refused first steps w v query turning list what e;
    }

known_is : (first : WorldState) (steps : List Step) (v u : WorldState) → v ≡ u → AllKnown first steps u → AllKnown first steps v
known_is first steps v u e h = subst (AllKnown first steps) (sym e) h

-- any step
step_known : (first : WorldState) (steps : List Step) (w v : WorldState) (step : Step) → Runs first steps w → IsWorld w → MayStep w step → Steps step w v
    → AllKnown first steps w → AllKnown first (steps ++ step ∷ []) v
step_known first steps w v (Page source rows) ran world may does h =
    known_is first _ v _ does (event_known first steps w source (event.Page rows) (Page source rows) may.0 may refl (same_tally (state_at w.states source) (after (state_at w.states source) (event.Page rows)) (Page source rows) source (page_tally (state_at w.states source) rows)) h)
step_known first steps w v (Grade source object grade) ran world may does h =
    known_is first _ v _ does (event_known first steps w source (event.Grade object grade) (Grade source object grade) may.0 may refl (same_tally (state_at w.states source) (after (state_at w.states source) (event.Grade object grade)) (Grade source object grade) source refl) h)
step_known first steps w v (Miss source object) ran world may does h =
    known_is first _ v _ does (event_known first steps w source (event.Miss object) (Miss source object) may.0 may refl (same_tally (state_at w.states source) (after (state_at w.states source) (event.Miss object)) (Miss source object) source refl) h)
step_known first steps w v (Fail source what) ran world may does h =
    known_is first _ v _ does (event_known first steps w source (event.Fail what) (Fail source what) may.0 may refl (fail_tells (state_at w.states source) source what) h)
step_known first steps w v (Move source object had now) ran world may does h =
    known_is first _ v _ does (event_known first steps w source (event.Move object had now) (Move source object had now) may.0 may refl (same_tally (state_at w.states source) (after (state_at w.states source) (event.Move object had now)) (Move source object had now) source (move_tally (state_at w.states source) object _)) h)
step_known first steps w v (Turn query) ran world may does h = turn_known first steps w v query ran world may does h

runs_known : (first : WorldState) (front steps : List Step) (w last : WorldState) → Runs first front w → IsWorld w → AllKnown first front w → Runs w steps last
    → AllKnown first (front ++ steps) last
runs_known first front [] w last ran world h runs = subst (λ xs. AllKnown first xs last) (sym (append-nil front)) (known_is first front last w runs h)
runs_known first front (step ∷ steps) w last ran world h runs =
    subst (λ xs. AllKnown first xs last) (append_assoc front (step ∷ []) steps)
    (runs_known first (front ++ step ∷ []) steps runs.0 last (runs_push w runs.0 first front step ran runs.1 runs.2) (stepped step w runs.0 world runs.1 runs.2).world
    (step_known first front w runs.0 step ran world runs.1 runs.2 h) runs.3)

-- before any step
none_known : (counts : List ℕ) (readies : List Ready) (w : WorldState) → IsMade counts readies w → AllKnown w [] w
none_known counts readies w made query q is =
    let fresh = (zip_member IsFresh readies w.queries q made.queries (slice_get_contains w.queries query q is)).2 in
    record {
      waits = λ n e. absurd (none_not_some (sym fresh.waits ∙ e));
      refused = λ list what e. absurd (none_not_some (sym fresh.refusal ∙ e));
    }

pub fails_told : (counts : List ℕ) (readies : List Ready) (first : WorldState) (steps : List Step) (last : WorldState) → IsWorld first
    → IsMade counts readies first → Runs first steps last
    → (query : ℕ) (q : RunningQuery) (list : ℕ) (what : FailKind) → slice_get last.queries query ≡ Some q → q.refusal ≡ Some (refusal.Look list (why.Call what)) → IsToldOfFail first steps last query list what
fails_told counts readies first steps last world made runs query q list what is e =
    (runs_known first [] steps first last refl world (none_known counts readies first made) runs query q is).refused list what e
