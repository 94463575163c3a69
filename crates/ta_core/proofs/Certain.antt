-- What a threshold machine foresees of a list is certain, and it is the first that the seen objects miss there.
use Rattle.std.proofs.Common.{◌≡◌, ◌≢◌, ℕ, suc, ◌+◌, ◌<◌, ◌≤◌, inl, inr, true, true≢false, false, List, [], ◌∷◌, ◌++◌, length, drop, AllPairs, Contains, Option, None, is_none, refl, sym, ap, subst, ◌∙◌, arith}
use Rattle.std.specs.List.{slice_get, flat_map}
use Rattle.std.proofs.lemmas.Bool.{cases_Bool, cases_lt}
use Rattle.std.proofs.lemmas.List.Elements.{Contains-append_left, Contains-append_right, Contains-append_cases}
use Rattle.ranked_list.specs.declared.row.Row.{Row}
use Rattle.ranked_list.specs.declared.need.Need.{Need}
use Rattle.ranked_list.specs.declared.need.Need.TheVariants as needs
use Rattle.ranked_list.specs.Table.{IsTable, grade_in}
use Rattle.ranked_list.proofs.OptionLaws.{option_cases}
use Rattle.machine_base.specs.Held.{Held}
use Rattle.monotone_fn.specs.Value.{value, IsMonotone}
use Rattle.monotone_fn.proofs.Laws.{value-monotone}
use Rattle.topk_theory.specs.declared.access.Access.{Access}
use Rattle.topk_theory.specs.declared.access.Access.TheVariants.{Random}
use Rattle.topk_theory.specs.Transcript.{list_at, list_of, object_of, given_rows, seen_objects}
use Rattle.topk_theory.specs.Bounds.{grade_among, known_grade}
use Rattle.topk_theory.specs.Threshold.{stands, random_block, ta_block, ta_run_to}
use Rattle.topk_theory.proofs.AgreementLists.{contains_nil, contains_here, contains_there, contains_cases, distinct_head, distinct_tail}
use Rattle.topk_theory.proofs.AgreementRows.{grade_among_row, grade_among_append_none}
use Rattle.topk_theory.proofs.Agreement.{given_rows_append, given_from, contains_middle, seen_distinct}
use Rattle.topk_theory.proofs.ThresholdLists.{filter_gone, contains_flat_map}
use Rattle.topk_theory.proofs.ThresholdRun.{random_members, seen_more, seen_stands}
use Rattle.algorithm_theory.proofs.WithinKnown.{stands_known}
use Rattle.access_log.specs.Log.{AgreesWith}
use Rattle.machine_base.specs.declared.base.Base.{Base}
use Rattle.machine_base.specs.Base.{shown}
use Rattle.machine_base.specs.Certain.{Meets, Foresees, unknown_among, grade_of_some, first_unknown, left_beside}
use Rattle.machine_base.proofs.Certain.{met_in_run, row_met}
use Rattle.machine_base.proofs.FirstUnknown.{Names, first_unknown_names}
use Rattle.machine_base.proofs.Held.{held_asked}
use Rattle.ta_core.specs.declared.halting.Halting.{Halting}
use Rattle.ta_core.specs.Halting.{Rule, Halt, halts_at, halting_depth, halting_run, passes_by}
use Rattle.ta_core.specs.Reading.{RowProgress, first_or_zero, need_at}
use Rattle.ta_core.specs.OnTable.{asks, OnRow, OnAsks}
use Rattle.ta_core.specs.Kept.{Keeps}
use Rattle.ta_core.specs.Certain.{left_of_seen}
use Rattle.ta_core.specs.Machine.{ThresholdState, run_halting}
use Rattle.ta_core.proofs.Rules.{rule_run, rule_foresees}
use Rattle.ta_core.proofs.HaltingLaws.{IsHalting, halting_of, own}
use Rattle.ta_core.proofs.Rows.{reads_rows, stands_object}
use Rattle.ta_core.proofs.Steps.{row_of_reading, asks_of_reading}
use Rattle.ta_core.proofs.Runs.{need_in_row, need_after_row, need_when_done, kept_depth}

-- ---- what is to come after a row
-- they are random accesses of the objects that wait
asks_random : (D : List (List Row)) (depth : ℕ) (waiting grades : List ℕ) (a : Access) → Contains (asks D depth waiting grades) a
    → (list : ℕ) × (object : ℕ) × (grade : ℕ) × Contains waiting object × (a ≡ Random list object grade)
asks_random D depth [] grades a c = absurd (contains_nil a c)
asks_random D depth (object ∷ waiting) grades a c =
    let g : ℕ = length grades in
    elim (Contains-append_cases (random_block g depth object (drop g D)) (flat_map (λ other. random_block 0 depth other D) waiting) a c) [
      | inl first ↦
          let k = random_members g depth object (drop g D) a first in
          (g + k.0, object, grade_in (list_at (drop g D) k.0) object, contains_here object waiting, k.2)
      | inr others ↦
          let piece = contains_flat_map (λ other. random_block 0 depth other D) waiting a others in
          let k = random_members 0 depth piece.0 D a piece.2 in
          (0 + k.0, piece.0, grade_in (list_at D k.0) piece.0, contains_there object waiting piece.0 piece.1, k.2)
    ]

-- a grade that is known only with more accesses is given by one of these
given_further : (A B : List Access) (object list : ℕ) → known_grade A object list ≡ None → is_none (known_grade (A ++ B) object list) ≡ false
    → (a : Access) × Contains B a × (object_of a ≡ object) × (list_of a ≡ list)
given_further A B object list unknown known =
    let split : known_grade (A ++ B) object list ≡ known_grade B object list =
    ap (λ rows. grade_among rows object) (given_rows_append list A B) ∙ grade_among_append_none (given_rows list A) (given_rows list B) object unknown in
    elim (option_cases (known_grade B object list)) [
      | inl none ↦ absurd (true≢false (ap (λ (o : Option ℕ). is_none o) (sym (split ∙ none)) ∙ known))
      | inr some' ↦
          let row : Row = record { object = object; grade = some'.0 } in
          let from = given_from list B row (grade_among_row (given_rows list B) object some'.0 some'.1) in
          (from.1, subst (λ C. Contains C from.1) (sym from.3) (contains_middle from.0 from.1 from.2), ap (λ (r : Row). r.object) from.5, from.4)
    ]

-- a random access by the object and the list that it names
as_named : (B : List Access) (a : Access) (i o grade object list : ℕ) → Contains B a → a ≡ Random i o grade → object_of a ≡ object → list_of a ≡ list
    → (o ≡ object) × Contains B (Random list object grade)
as_named B a i o grade object list c is same here =
    let named : o ≡ object = sym (ap object_of is) ∙ same in
    let number : i ≡ list = sym (ap list_of is) ∙ here in
    (named, subst (λ b. Contains B b) (is ∙ ap (λ l. Random l o grade) number ∙ ap (λ z. Random list z grade) named) c)

-- a grade that a seen object misses is to come, so the object waits
missing_asked : (V : List ℕ → ℕ) (halt : Halt) (n : ℕ) (D : List (List Row)) (A : List Access) (r : RowProgress) (object list : ℕ) → IsTable n D → OnAsks V halt n D A r
    → Contains (seen_objects A) object → list < length D → known_grade A object list ≡ None
    → Contains r.waiting object × (grade : ℕ) × Contains (asks D r.depth r.waiting r.grades) (Random list object grade)
missing_asked V halt n D A r object list t on seen l unknown =
    let d : ℕ = r.depth in
    let B : List Access = asks D d r.waiting r.grades in
    let stood : stands D d object ≡ true =
    seen_stands n D d object t on.at.within (subst (λ C. Contains (seen_objects C) object) on.ahead (seen_more A B object seen)) in
    let known : is_none (known_grade (A ++ B) object list) ≡ false =
    subst (λ C. is_none (known_grade C object list) ≡ false) (sym on.ahead) (stands_known n d object list D t (stands_object n D d object t on.at.within stood) stood l) in
    let by = given_further A B object list unknown known in
    let is = asks_random D d r.waiting r.grades by.0 by.1 in
    let here = as_named B by.0 is.0 is.1 is.2 object list by.1 is.4 by.2 by.3 in
    (subst (λ o. Contains r.waiting o) here.0 is.3, is.2, here.1)

-- ---- what is certain
-- a row that isn't whole becomes so
row_certain : (V : List ℕ → ℕ) (halt : Halt) (n : ℕ) (D : List (List Row)) (A : List Access) (r : RowProgress) (list : ℕ) → IsMonotone V → IsHalting halt n D
    → OnRow V halt n D A r → list < length D → Meets (halting_run V halt D) (needs.Row list r.depth)
row_certain V halt n D A r list monotone asked on l =
    row_met (ta_run_to D) (λ p. ta_block D (suc p)) (halts_at V halt D) n (halting_depth V halt D) D r.depth list (λ p. refl) (reads_rows n D asked.table) asked.table
    (own V halt n D monotone asked) on.at l

-- a grade that a seen object misses is asked for
grade_certain : (V : List ℕ → ℕ) (halt : Halt) (n : ℕ) (D : List (List Row)) (A : List Access) (r : RowProgress) (object list : ℕ) → IsMonotone V → IsHalting halt n D
    → OnAsks V halt n D A r → Contains (seen_objects A) object → list < length D → known_grade A object list ≡ None
    → Meets (halting_run V halt D) (needs.Grade list object)
grade_certain V halt n D A r object list monotone asked on seen l unknown =
    let d : ℕ = r.depth in
    let B : List Access = asks D d r.waiting r.grades in
    let ahead = missing_asked V halt n D A r object list asked.table on seen l unknown in
    let a : Access = Random list object ahead.1 in
    let there : Contains (ta_run_to D d) a = subst (λ C. Contains C a) on.ahead (Contains-append_right A B a ahead.2) in
    met_in_run (ta_run_to D) (λ p. ta_block D (suc p)) (halts_at V halt D) n (halting_depth V halt D) d (needs.Grade list object) (λ p. refl) (own V halt n D monotone asked) on.at
    (ahead.1, there)

-- so the row of a list is foreseen in a row that isn't whole
row_foreseen : (rule : Halting) (base : Base) (board : Held) (r : RowProgress) (list : ℕ) (need : Need) → Keeps (passes_by rule) base board r → r.done ≡ false
    → length r.objects < base.transcript.lists → list < base.transcript.lists → Foresees (rule_run rule) (shown base need) list (needs.Row list r.depth)
row_foreseen rule base board r list need kept going short l =
    let V = value base.expr in
    let halt : Halt = record { k = base.k; passes = passes_by rule } in
    let n : ℕ = base.transcript.count in
    let A = base.transcript.accesses in
    let some' = kept.base.agreeing in
    let on : (D : List (List Row)) → AgreesWith D base.transcript → OnRow V halt n D A r =
    λ D agrees. row_of_reading V halt n D A r going (omega (arith, agrees.lists, short)) (kept.on_table D agrees).reading in
    record {
      certain = record {
        met = λ D agrees.
            row_certain V halt n D A r list (value-monotone base.expr) (halting_of halt n D kept.fit (held_asked base.expr base.k base.room base.transcript.lists n A D kept.base agrees)) (on D agrees) (omega (arith, agrees.lists, l));
      };
      of = (refl, (on some'.0 some'.1).at.positive, kept_depth (passes_by rule) base board r kept going);
    }

-- and after it a grade that a seen object misses
grade_foreseen : (rule : Halting) (base : Base) (board : Held) (r : RowProgress) (list : ℕ) (need found : Need) → Keeps (passes_by rule) base board r → r.done ≡ false
    → base.transcript.lists ≤ length r.objects → list < base.transcript.lists → Names base.transcript.accesses (seen_objects base.transcript.accesses) list found
    → Foresees (rule_run rule) (shown base need) list found
grade_foreseen rule base board r list need (needs.Row other depth) kept going whole l named = absurd named
grade_foreseen rule base board r list need (needs.Grade other object) kept going whole l named =
    let V = value base.expr in
    let halt : Halt = record { k = base.k; passes = passes_by rule } in
    let n : ℕ = base.transcript.count in
    let A = base.transcript.accesses in
    record {
      certain = record {
        met = λ D agrees.
            let asked = halting_of halt n D kept.fit (held_asked base.expr base.k base.room base.transcript.lists n A D kept.base agrees) in
            let on = asks_of_reading V halt n D A r going (omega (arith, agrees.lists, whole)) (kept.on_table D agrees).reading in
            subst (λ i. Meets (halting_run V halt D) (needs.Grade i object)) (sym named.0)
            (grade_certain V halt n D A r object list (value-monotone base.expr) asked on named.1 (omega (arith, agrees.lists, l)) named.2);
      };
      of = named.0;
    }
grade_foreseen rule base board r list need needs.Done kept going whole l named = record { certain = record { met = λ D agrees. tt }; of = tt }

-- what is left beside the seen objects is foreseen
left_is_foreseen : (rule : Halting) (base : Base) (board : Held) (r : RowProgress) (list : ℕ) → Keeps (passes_by rule) base board r → list < base.transcript.lists
    → (let t = shown base (need_at base.transcript.lists r) in Foresees (rule_run rule) t list (left_of_seen t list))
left_is_foreseen rule base board r list kept l =
    let m : ℕ = base.transcript.lists in
    let seen : List ℕ = seen_objects base.transcript.accesses in
    elim (cases_Bool r.done) [
      | inl done ↦
          subst (λ need. Foresees (rule_run rule) (shown base need) list (left_of_seen (shown base need) list)) (sym (need_when_done m r done))
          (record { certain = record { met = λ D agrees. tt }; of = tt })
      | inr going ↦ elim (cases_lt (length r.objects) m) [
        | inl short ↦
            let row : Need = needs.Row (length r.objects) r.depth in
            subst (λ need. Foresees (rule_run rule) (shown base need) list (left_of_seen (shown base need) list)) (sym (need_in_row m r going short))
            (row_foreseen rule base board r list row kept going short l)
        | inr whole ↦
            let grade : Need = needs.Grade (length r.grades) (first_or_zero r.waiting) in
            subst (λ need. Foresees (rule_run rule) (shown base need) list (left_of_seen (shown base need) list)) (sym (need_after_row m r going whole))
            (grade_foreseen rule base board r list grade (first_unknown base.transcript.accesses seen list) kept going whole l (first_unknown_names base.transcript.accesses seen list))
      ]
    ]

-- ---- the first of the seen objects that misses a grade
-- in a list without repeats what stands in its front doesn't stand behind
front_apart : (front behind : List ℕ) (x : ℕ) → AllPairs (λ (one other : ℕ). one ≢ other) (front ++ behind) → Contains front x → ¬ Contains behind x
front_apart [] behind x apart c = absurd (contains_nil x c)
front_apart (y ∷ front) behind x apart c =
    elim (contains_cases y front x c) [
      | inl same ↦ λ there. distinct_head y (front ++ behind) x apart (Contains-append_right front behind x there) same
      | inr later ↦ front_apart front behind x (distinct_tail y (front ++ behind) apart) later
    ]

-- known ones before them are passed over
unknown_behind : (A : List Access) (before waiting : List ℕ) (list : ℕ) → ((object : ℕ) → Contains before object → is_none (known_grade A object list) ≡ false)
    → unknown_among A (before ++ waiting) list ≡ unknown_among A waiting list
unknown_behind A [] waiting list known = refl
unknown_behind A (object ∷ before) waiting list known =
    filter_gone (λ o. is_none (known_grade A o list)) object (before ++ waiting) (known object (contains_here object before))
    ∙ unknown_behind A before waiting list (λ o c. known o (contains_there object before o c))

-- after a row the seen objects before those that wait are known
before_known : (passes : Rule) (base : Base) (board : Held) (r : RowProgress) (object list : ℕ) (kept : Keeps passes base board r) → r.done ≡ false
    → base.transcript.lists ≤ length r.objects → list < base.transcript.lists → Contains kept.sound.waiting_last.0 object
    → is_none (known_grade base.transcript.accesses object list) ≡ false
before_known passes base board r object list kept going whole l c =
    let V = value base.expr in
    let halt : Halt = record { k = base.k; passes = passes } in
    let n : ℕ = base.transcript.count in
    let A = base.transcript.accesses in
    let last = kept.sound.waiting_last in
    let D = kept.base.agreeing.0 in
    let agrees : AgreesWith D base.transcript = kept.base.agreeing.1 in
    let on = asks_of_reading V halt n D A r going (omega (arith, agrees.lists, whole)) (kept.on_table D agrees).reading in
    let seen : Contains (seen_objects A) object = subst (λ os. Contains os object) (sym last.1) (Contains-append_left last.0 r.waiting object c) in
    let apart : AllPairs (λ (one other : ℕ). one ≢ other) (last.0 ++ r.waiting) = subst (AllPairs (λ (one other : ℕ). one ≢ other)) last.1 (seen_distinct A) in
    elim (option_cases (known_grade A object list)) [
      | inl none ↦ absurd (front_apart last.0 r.waiting object apart c (missing_asked V halt n D A r object list agrees.table on seen (omega (arith, agrees.lists, l)) none).0)
      | inr some' ↦ ap (λ (o : Option ℕ). is_none o) some'.1
    ]

first_of_seen : (passes : Rule) (base : Base) (board : Held) (r : RowProgress) (list : ℕ) → Keeps passes base board r → r.done ≡ false
    → base.transcript.lists ≤ length r.objects → list < base.transcript.lists
    → first_unknown base.transcript.accesses r.waiting list ≡ first_unknown base.transcript.accesses (seen_objects base.transcript.accesses) list
first_of_seen passes base board r list kept going whole l =
    let A = base.transcript.accesses in
    let last = kept.sound.waiting_last in
    ap (λ (os : List ℕ). grade_of_some list (slice_get os 0)) (sym (unknown_behind A last.0 r.waiting list (λ object c. before_known passes base board r object list kept going whole l c)))
    ∙ ap (λ (os : List ℕ). first_unknown A os list) (sym last.1)

-- so what is left beside the objects that wait is what is left beside the seen ones
left_is_of_seen : (passes : Rule) (base : Base) (board : Held) (r : RowProgress) (list : ℕ) → Keeps passes base board r → list < base.transcript.lists
    → left_beside (need_at base.transcript.lists r) base.transcript.accesses r.waiting list ≡ left_of_seen (shown base (need_at base.transcript.lists r)) list
left_is_of_seen passes base board r list kept l =
    let m : ℕ = base.transcript.lists in
    let A = base.transcript.accesses in
    elim (cases_Bool r.done) [
      | inl done ↦ subst (λ need. left_beside need A r.waiting list ≡ left_beside need A (seen_objects A) list) (sym (need_when_done m r done)) refl
      | inr going ↦ elim (cases_lt (length r.objects) m) [
        | inl short ↦ subst (λ need. left_beside need A r.waiting list ≡ left_beside need A (seen_objects A) list) (sym (need_in_row m r going short)) refl
        | inr whole ↦
            subst (λ need. left_beside need A r.waiting list ≡ left_beside need A (seen_objects A) list) (sym (need_after_row m r going whole))
            (first_of_seen passes base board r list kept going whole l)
      ]
    ]

-- ---- as contracts see the machine
pub state_foresees : (rule : Halting) (base : Base) (board : Held) (r : RowProgress) (list : ℕ) (t : ThresholdState) → Keeps (passes_by rule) base board r
    → record { state = shown base (need_at base.transcript.lists r); halting = rule } ≡ t → list < t.state.log.lists
    → Foresees (run_halting t.halting) t.state list (left_of_seen t.state list)
state_foresees rule base board r list t kept is =
    subst (λ (u : ThresholdState). list < u.state.log.lists → Foresees (run_halting u.halting) u.state list (left_of_seen u.state list)) is
    (λ l. let t = shown base (need_at base.transcript.lists r) in rule_foresees rule t list (left_of_seen t list) (left_is_foreseen rule base board r list kept l))

pub state_left : (rule : Halting) (base : Base) (board : Held) (r : RowProgress) (list : ℕ) (need : Need) (t : ThresholdState) → Keeps (passes_by rule) base board r
    → record { state = shown base (need_at base.transcript.lists r); halting = rule } ≡ t → list < t.state.log.lists → need ≡ t.state.need
    → left_beside need base.transcript.accesses r.waiting list ≡ left_of_seen t.state list
state_left rule base board r list need t kept is =
    subst (λ (u : ThresholdState). list < u.state.log.lists → need ≡ u.state.need → left_beside need base.transcript.accesses r.waiting list ≡ left_of_seen u.state list) is
    (λ l next. ap (λ n. left_beside n base.transcript.accesses r.waiting list) next ∙ left_is_of_seen (passes_by rule) base board r list kept l)
