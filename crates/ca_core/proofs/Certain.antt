-- What is left at a stage is certain: the run makes it on every table that agrees. And it is all that is left of what the run asks for.
use Rattle.std.proofs.Common.{◌≡◌, ℕ, ◌<◌, inl, inr, List, [], ◌∷◌, ◌++◌, length, drop, Contains, Option, None, is_none, refl, sym, ap, subst, ◌∙◌, append-nil, arith}
use Rattle.std.specs.List.{slice_get}
use Rattle.std.proofs.lemmas.List.Elements.{Contains-append_right}
use Rattle.ranked_list.specs.declared.row.Row.{Row}
use Rattle.ranked_list.specs.declared.item.Item.{Item}
use Rattle.ranked_list.specs.declared.need.Need.{Need}
use Rattle.ranked_list.specs.declared.need.Need.TheVariants as needs
use Rattle.ranked_list.specs.Table.{grade_in}
use Rattle.monotone_fn.specs.Value.{value}
use Rattle.monotone_fn.proofs.Laws.{value-monotone}
use Rattle.topk_theory.specs.declared.access.Access.{Access}
use Rattle.topk_theory.specs.declared.access.Access.TheVariants.{Random}
use Rattle.topk_theory.specs.Asked.{combined_run}
use Rattle.topk_theory.specs.Transcript.{list_at, list_numbers}
use Rattle.topk_theory.specs.Bounds.{known_grade}
use Rattle.topk_theory.specs.Threshold.{item_objects}
use Rattle.topk_theory.specs.Combined.{phase_length, missing_grades, unknown_lists, finish, ca_run_to, ca_depth, ca_blocks, ca_run}
use Rattle.topk_theory.proofs.AgreementLists.{contains_nil, contains_cases, contains_map}
use Rattle.topk_theory.proofs.ListNumbers.{number_in}
use Rattle.topk_theory.proofs.ThresholdLists.{contains_filter}
use Rattle.access_log.specs.Log.{AgreesWith}
use Rattle.machine_base.specs.declared.base.Base.{Base}
use Rattle.machine_base.specs.Base.{shown}
use Rattle.machine_base.specs.declared.asking.Ask.{Ask}
use Rattle.machine_base.specs.Asking.{all_missing}
use Rattle.machine_base.specs.Certain.{Meets, IsOf, first_unknown, Foresees}
use Rattle.machine_base.proofs.Certain.{flat_has, met_more, met_in_run, row_met}
use Rattle.machine_base.proofs.Fronts.{drop_here}
use Rattle.machine_base.proofs.FirstUnknown.{Names, first_unknown_names}
use Rattle.machine_base.proofs.Held.{held_asked}
use Rattle.ca_core.specs.declared.stage.Stage.{Stage}
use Rattle.ca_core.specs.declared.stage.Stage.TheVariants as stages
use Rattle.ca_core.specs.Certain.{left_at}
use Rattle.ca_core.specs.Course.{need_at}
use Rattle.ca_core.specs.OnTable.{quiet_at}
use Rattle.ca_core.specs.Kept.{Keeps}
use Rattle.ca_core.specs.Machine.{AreRest, IsLeftOf}
use Rattle.ca_core.proofs.Path.{reads_rows, block_of, grows, own}

-- the missing grades have each grade that no access gave
missing_has : (D : List (List Row)) (A : List Access) (object list : ℕ) → list < length D → known_grade A object list ≡ None
    → Contains (missing_grades D A object) (Random list object (grade_in (list_at D list) object))
missing_has D A object list l unknown =
    let has : Contains (unknown_lists (length D) A object) list =
    contains_filter (λ other. is_none (known_grade A object other)) (list_numbers (length D)) list (number_in (length D) list l) (ap (λ (o : Option ℕ). is_none o) unknown) in
    contains_map (λ other. Random other object (grade_in (list_at D other) object)) (unknown_lists (length D) A object) list has

all_have : (D : List (List Row)) (A : List Access) (objects : List ℕ) (object list : ℕ) → Contains objects object → list < length D → known_grade A object list ≡ None
    → Contains (all_missing D A objects) (Random list object (grade_in (list_at D list) object))
all_have D A objects object list c l unknown = flat_has (missing_grades D A) objects object _ c (missing_has D A object list l unknown)

only : (one other : ℕ) → Contains (one ∷ []) other → one ≡ other
only one other c = elim (contains_cases one [] other c) [ inl e ↦ e | inr none ↦ absurd (contains_nil other none) ]

row_certain : (base : Base) (phase : ℕ) (first : List Item) (next depth list : ℕ) (D : List (List Row)) → Keeps base phase first (stages.Row next depth)
    → AgreesWith D base.transcript → list < base.transcript.lists → Meets (ca_run (value base.expr) base.k phase D) (needs.Row list depth)
row_certain base phase first next depth list D kept agrees l =
    let V = value base.expr in
    let n : ℕ = base.transcript.count in
    let monotone = value-monotone base.expr in
    let asked = held_asked base.expr base.k base.room base.transcript.lists n base.transcript.accesses D kept.base agrees in
    let on = kept.on_table D agrees in
    met_more (ca_blocks V base.k phase D) (finish V base.k D (ca_blocks V base.k phase D)) (needs.Row list depth)
    (row_met (ca_run_to V base.k phase D) (block_of V base.k phase D) (quiet_at V base.k phase D) n (ca_depth V base.k phase D) D depth list (grows V base.k phase D)
    (reads_rows V base.k phase n D asked.table) asked.table (own V base.k phase n D monotone asked) on.at (omega (arith, agrees.lists, l)))

choice_certain : (base : Base) (phase : ℕ) (first : List Item) (next object depth list : ℕ) (D : List (List Row)) → Keeps base phase first (stages.Choice next object depth)
    → AgreesWith D base.transcript → list < base.transcript.lists → known_grade base.transcript.accesses object list ≡ None
    → Meets (ca_run (value base.expr) base.k phase D) (needs.Grade list object)
choice_certain base phase first next object depth list D kept agrees l unknown =
    let V = value base.expr in
    let n : ℕ = base.transcript.count in
    let A = base.transcript.accesses in
    let monotone = value-monotone base.expr in
    let asked = held_asked base.expr base.k base.room base.transcript.lists n A D kept.base agrees in
    let on = kept.on_table D agrees in
    let a : Access = Random list object (grade_in (list_at D list) object) in
    let has : Contains (missing_grades D A object) a = missing_has D A object list (omega (arith, agrees.lists, l)) unknown in
    let there : Contains (ca_run_to V base.k phase D depth) a = subst (λ B. Contains B a) on.made (Contains-append_right A (missing_grades D A object) a has) in
    met_more (ca_blocks V base.k phase D) (finish V base.k D (ca_blocks V base.k phase D)) (needs.Grade list object)
    (met_in_run (ca_run_to V base.k phase D) (block_of V base.k phase D) (quiet_at V base.k phase D) n (ca_depth V base.k phase D) depth (needs.Grade list object) (grows V base.k phase D)
    (own V base.k phase n D monotone asked) on.at (grade_in (list_at D list) object, there))

-- what is left of objects is nothing, or the grade of one of them that no access gave
named : (A : List Access) (objects : List ℕ) (list : ℕ) (need : Need) → need ≡ first_unknown A objects list → Names A objects list need
named A objects list need left = subst (Names A objects list) (sym left) (first_unknown_names A objects list)

-- what is left is met
unknown_met : (base : Base) (phase : ℕ) (objects : List ℕ) (list : ℕ) (need : Need) (D : List (List Row)) → Names base.transcript.accesses objects list need
    → ((object : ℕ) → Contains objects object → known_grade base.transcript.accesses object list ≡ None → Meets (ca_run (value base.expr) base.k phase D) (needs.Grade list object))
    → Meets (ca_run (value base.expr) base.k phase D) need
unknown_met base phase objects list (needs.Row other depth) D names each = absurd names
unknown_met base phase objects list (needs.Grade other object) D names each =
    subst (λ l. Meets (ca_run (value base.expr) base.k phase D) (needs.Grade l object)) (sym names.0) (each object names.1 names.2)
unknown_met base phase objects list needs.Done D names each = tt

left_met : (base : Base) (phase : ℕ) (first : List Item) (stage : Stage) (list : ℕ) (need : Need) (D : List (List Row)) → Keeps base phase first stage
    → AgreesWith D base.transcript → list < base.transcript.lists → need ≡ left_at base.transcript.accesses (item_objects first) stage list
    → Meets (ca_run (value base.expr) base.k phase D) need
left_met base phase first (stages.Row next depth) list need D kept agrees l left =
    subst (Meets (ca_run (value base.expr) base.k phase D)) (sym left) (row_certain base phase first next depth list D kept agrees l)
left_met base phase first (stages.Choice next object depth) list need D kept agrees l left =
    unknown_met base phase (object ∷ []) list need D (named base.transcript.accesses (object ∷ []) list need left)
    (λ other c unknown. let same = only object other c in
    subst (λ o. Meets (ca_run (value base.expr) base.k phase D) (needs.Grade list o)) same
    (choice_certain base phase first next object depth list D kept agrees l (subst (λ o. known_grade base.transcript.accesses o list ≡ None) (sym same) unknown)))
left_met base phase first (stages.Finish ask) list need D kept agrees l left =
    let A = base.transcript.accesses in
    unknown_met base phase (drop ask.place (item_objects first)) list need D (named A (drop ask.place (item_objects first)) list need left)
    (λ object c unknown.
    let a : Access = Random list object (grade_in (list_at D list) object) in
    let has = all_have D A (drop ask.place (item_objects first)) object list c (omega (arith, agrees.lists, l)) unknown in
    (grade_in (list_at D list) object, subst (λ B. Contains B a) (kept.on_table D agrees).made (Contains-append_right A (all_missing D A (drop ask.place (item_objects first))) a has)))
left_met base phase first stages.Done list need D kept agrees l left = subst (Meets (ca_run (value base.expr) base.k phase D)) (sym left) tt

names_of_list : (A : List Access) (objects : List ℕ) (n list : ℕ) (need : Need) → Names A objects list need → IsOf n list need
names_of_list A objects n list (needs.Row other depth) names = absurd names
names_of_list A objects n list (needs.Grade other object) names = names.0
names_of_list A objects n list needs.Done names = tt

left_of_list : (base : Base) (phase : ℕ) (first : List Item) (stage : Stage) (list : ℕ) (need : Need) → Keeps base phase first stage
    → need ≡ left_at base.transcript.accesses (item_objects first) stage list → IsOf base.transcript.count list need
left_of_list base phase first (stages.Row next depth) list need kept left =
    let some = kept.base.agreeing in
    let at = (kept.on_table some.0 some.1).at in
    subst (IsOf base.transcript.count list) (sym left) (refl, at.positive, at.within)
left_of_list base phase first (stages.Choice next object depth) list need kept left =
    let A = base.transcript.accesses in
    names_of_list A (object ∷ []) base.transcript.count list need (named A (object ∷ []) list need left)
left_of_list base phase first (stages.Finish ask) list need kept left =
    let A = base.transcript.accesses in
    let objects = drop ask.place (item_objects first) in
    names_of_list A objects base.transcript.count list need (named A objects list need left)
left_of_list base phase first stages.Done list need kept left = subst (IsOf base.transcript.count list) (sym left) tt

pub left_is_foreseen : (base : Base) (phase : ℕ) (first : List Item) (stage : Stage) (list : ℕ) (need : Need) → Keeps base phase first stage
    → phase ≡ phase_length base.costs.sorted base.costs.random → list < base.transcript.lists → need ≡ left_at base.transcript.accesses (item_objects first) stage list
    → Foresees combined_run (shown base (need_at stage)) list need
left_is_foreseen base phase first stage list need kept paid l left = record {
  certain = record {
    met = λ D agrees. subst (λ p. Meets (ca_run (value base.expr) base.k p D) need) paid (left_met base phase first stage list need D kept agrees l left);
  };
  of = left_of_list base phase first stage list need kept left;
}

-- the choice is asked for up to the end of its depth
choice_rest : (base : Base) (phase : ℕ) (first : List Item) (next object depth : ℕ) (D : List (List Row)) → Keeps base phase first (stages.Choice next object depth)
    → phase ≡ phase_length base.costs.sorted base.costs.random → AgreesWith D base.transcript
    → AreRest (shown base (needs.Grade next object)) (object ∷ []) D
choice_rest base phase first next object depth D kept paid agrees =
    let A = base.transcript.accesses in
    inl (
      depth,
      ap (λ B. A ++ B) (append-nil (missing_grades D A object)) ∙ (kept.on_table D agrees).made ∙ ap (λ p. ca_run_to (value base.expr) base.k p D depth) paid,
    )

-- and the first k from a place on up to the end of the run
finish_rest : (base : Base) (phase : ℕ) (first : List Item) (ask : Ask) (D : List (List Row)) → Keeps base phase first (stages.Finish ask)
    → phase ≡ phase_length base.costs.sorted base.costs.random → AgreesWith D base.transcript
    → AreRest (shown base (needs.Grade ask.list ask.object)) (drop ask.place (item_objects first)) D
finish_rest base phase first ask D kept paid agrees = inr ((kept.on_table D agrees).made ∙ ap (λ p. ca_run (value base.expr) base.k p D) paid)

-- what is left at a stage is what is left of the objects that the run asks for
pub is_left : (base : Base) (phase : ℕ) (first : List Item) (stage : Stage) (list : ℕ) (need : Need) → Keeps base phase first stage
    → phase ≡ phase_length base.costs.sorted base.costs.random → need ≡ left_at base.transcript.accesses (item_objects first) stage list
    → IsLeftOf (shown base (need_at stage)) list need
is_left base phase first (stages.Row next depth) list need kept paid left = record { objects = []; asks = tt; left = left }
is_left base phase first (stages.Choice next object depth) list need kept paid left = record {
  objects = object ∷ [];
  asks = record { first = refl; rest = λ D agrees. choice_rest base phase first next object depth D kept paid agrees };
  left = left;
}
is_left base phase first (stages.Finish ask) list need kept paid left = record {
  objects = drop ask.place (item_objects first);
  asks = record {
    first = ap (λ (objects : List ℕ). slice_get objects 0) (drop_here (item_objects first) ask.place ask.object kept.sound.here);
    rest = λ D agrees. finish_rest base phase first ask D kept paid agrees;
  };
  left = left;
}
is_left base phase first stages.Done list need kept paid left = record { objects = []; asks = tt; left = left }
