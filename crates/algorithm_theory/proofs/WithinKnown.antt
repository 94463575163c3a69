-- What the rows and asks down to a depth make known: all grades of the objects that stand there, and the threshold.
use Rattle.std.proofs.Common.{◌≡◌, inl, inr, ℕ, zero, suc, ◌+◌, ◌-◌, ◌<◌, ◌≤◌, true, false, cond, not, nat_lt, List, [], ◌∷◌, length, map, take, Contains, Option, Some, None, is_none, unwrap_or, slice_index_or, refl, sym, ap, subst, ◌∙◌, arith, eq-eqb}
use Rattle.std.specs.List.{flat_map}
use Rattle.std.proofs.lemmas.Bool.{cases_Bool, cases_lt, true≢false, ltb-false}
use Rattle.std.proofs.lemmas.List.Elements.{Contains-append_left, Contains-append_right}
use Rattle.ranked_list.specs.declared.row.Row.{Row}
use Rattle.ranked_list.specs.Table.{IsTable, objects, place_in, grade_in, top_grade}
use Rattle.ranked_list.proofs.OptionLaws.{option_cases, none_if_is_none}
use Rattle.ranked_list.proofs.RankLaws.{no_row}
use Rattle.topk_theory.specs.declared.access.Access.{Access}
use Rattle.topk_theory.specs.declared.access.Access.TheVariants.{Sorted, Random}
use Rattle.topk_theory.specs.Aggregate.{objects_of, aggregate}
use Rattle.topk_theory.specs.Transcript.{Agrees, list_at, list_of, object_of, given_row, given_rows, list_numbers, last_grade, bottom_of, each_once}
use Rattle.topk_theory.specs.Bounds.{known_grade, low, high, threshold}
use Rattle.topk_theory.specs.Threshold.{row_at, stands, new_objects, sorted_block, random_block, ta_block, ta_run_to, threshold_at}
use Rattle.topk_theory.proofs.AgreementLists.{contains_nil, contains_here, contains_there, contains_cases, contains_map}
use Rattle.topk_theory.proofs.AgreementNames.{each_once_complete}
use Rattle.topk_theory.proofs.AgreementRows.{list_at_contains, list_at_length, object_of_row, grade_among_none}
use Rattle.topk_theory.proofs.Agreement.{row_of, known_grade_is, known_grade_kept}
use Rattle.topk_theory.proofs.Adversary.{same_places}
use Rattle.topk_theory.proofs.BoundsLaws.{grades_by_number, map_places}
use Rattle.topk_theory.proofs.ThresholdLists.{contains_filter, none_from_any}
use Rattle.topk_theory.proofs.ThresholdTables.{place_in-lt, object-at_place}
use Rattle.topk_theory.proofs.ThresholdDepth.{stands_from, list_holds}
use Rattle.topk_theory.proofs.ThresholdRun.{contains_filter_map, random_block_here, random_block_lower, contains_sorted, run_rows}

-- ---- what an access gives is known
pub access_known : (A : List Access) (a : Access) (object list : ℕ) → Contains A a → object_of a ≡ object → list_of a ≡ list
    → is_none (known_grade A object list) ≡ false
access_known A a object list c same_object same_list =
    let row : Row = row_of a in
    let held : Contains (given_rows (list_of a) A) row = contains_filter_map (given_row (list_of a)) A a row c (ap (λ b. cond b (Some row) None) (eq-eqb (list_of a) (list_of a) refl)) in
    let there : Contains (given_rows list A) row = subst (λ l. Contains (given_rows l A) row) same_list held in
    let named : Contains (objects (given_rows list A)) object = subst (λ o. Contains (objects (given_rows list A)) o) same_object (object_of_row (given_rows list A) row there) in
    elim (cases_Bool (is_none (known_grade A object list))) [
      | inl t ↦ absurd (grade_among_none (given_rows list A) object (none_if_is_none (known_grade A object list) t) named)
      | inr f ↦ f
    ]

-- ---- the asks of an object reach each list in which it stands lower
block_asks : (start i depth object : ℕ) (D : List (List Row)) → i < length D → depth ≤ place_in (list_at D i) object
    → Contains (random_block start depth object D) (Random (start + i) object (grade_in (list_at D i) object))
block_asks start i depth object [] l below = absurd (omega arith)
block_asks start zero depth object (rows ∷ D) l below =
    let a : Access = Random start object (grade_in rows object) in
    let e : start ≡ start + 0 = omega arith in
    subst (λ list. Contains (random_block start depth object (rows ∷ D)) (Random list object (grade_in rows object))) e
    (subst (λ B. Contains B a) (sym (random_block_lower start depth object rows D below)) (contains_here a (random_block (start + 1) depth object D)))
block_asks start (suc i) depth object (rows ∷ D) l below =
    let e : start + 1 + i ≡ start + suc i = omega arith in
    let a : Access = Random (start + suc i) object (grade_in (list_at D i) object) in
    let rest : Contains (random_block (start + 1) depth object D) a = subst (λ list. Contains (random_block (start + 1) depth object D) (Random list object (grade_in (list_at D i) object))) e
    (block_asks (start + 1) i depth object D (omega arith) below) in
    elim (cases_lt (place_in rows object) depth) [
      | inl here ↦ subst (λ B. Contains B a) (sym (random_block_here start depth object rows D here)) rest
      | inr lower ↦ subst (λ B. Contains B a) (sym (random_block_lower start depth object rows D lower)) (contains_there (Random start object (grade_in rows object)) (random_block (start + 1) depth object D) a rest)
    ]

in_flat_map : (f : ℕ → List Access) (xs : List ℕ) (x : ℕ) (a : Access) → Contains xs x → Contains (f x) a → Contains (flat_map f xs) a
in_flat_map f [] x a c h = absurd (contains_nil x c)
in_flat_map f (y ∷ xs) x a c h =
    elim (contains_cases y xs x c) [
      | inl e ↦ Contains-append_left (f y) (flat_map f xs) a (subst (λ z. Contains (f z) a) (sym e) h)
      | inr r ↦ Contains-append_right (f y) (flat_map f xs) a (in_flat_map f xs x a r h)
    ]

-- ---- an object that stands down to a depth and not above it is new there
not_above : (D : List (List Row)) (rows : List Row) (depth object : ℕ) → Contains D rows → stands D depth object ≡ false → depth ≤ place_in rows object
not_above D rows depth object c unseen = ltb-false (place_in rows object) depth (none_from_any (λ (rows : List Row). nat_lt (place_in rows object) depth) D rows unseen c)

row_there : (n depth object : ℕ) (D : List (List Row)) (rows : List Row) → IsTable n D → Contains D rows → Contains (objects_of D) object → place_in rows object ≡ depth
    → (row_at rows (suc depth)).object ≡ object
row_there n depth object D rows t c here placed =
    let at : suc depth - 1 ≡ place_in rows object = omega arith in
    ap (λ p. (slice_index_or rows p no_row).object) at ∙ object-at_place rows object no_row (place_in-lt rows object (list_holds n D rows object t c here))

new_there : (n depth object : ℕ) (D : List (List Row)) → IsTable n D → Contains (objects_of D) object → stands D depth object ≡ false
    → stands D (suc depth) object ≡ true → Contains (new_objects D (suc depth)) object
new_there n depth object D t here unseen seen =
    let from = stands_from D (suc depth) object seen in
    let low = from.2 in
    let high : depth ≤ place_in from.0 object = not_above D from.0 depth object from.1 unseen in
    let placed : place_in from.0 object ≡ depth = omega arith in
    let row : ℕ → List ℕ = λ at. map (λ (rows : List Row). (row_at rows at).object) D in
    let held : Contains (row (suc depth)) object = subst (λ o. Contains (row (suc depth)) o) (row_there n depth object D from.0 t from.1 here placed) (contains_map (λ (rows : List Row). (row_at rows (suc depth)).object) D from.0 from.1) in
    let above : suc depth - 1 ≡ depth = omega arith in
    contains_filter (λ (o : ℕ). not (stands D (suc depth - 1) o)) (each_once (row (suc depth))) object (each_once_complete (row (suc depth)) object held)
    (ap (λ d. not (stands D d object)) above ∙ ap not unseen)

-- each of its grades comes in the block of that depth
block_knows : (n depth object list : ℕ) (D : List (List Row)) → IsTable n D → Contains (objects_of D) object → stands D depth object ≡ false
    → stands D (suc depth) object ≡ true → list < length D → (a : Access) × Contains (ta_block D (suc depth)) a × (object_of a ≡ object) × (list_of a ≡ list)
block_knows n depth object list D t here unseen seen l =
    let rows = list_at D list in
    let number : 0 + list ≡ list = omega arith in
    let asks : List Access = flat_map (λ o. random_block 0 (suc depth) o D) (new_objects D (suc depth)) in
    elim (cases_lt (place_in rows object) (suc depth)) [
      | inl low ↦
          let high : depth ≤ place_in rows object = not_above D rows depth object (list_at_contains D list l) unseen in
          let placed : place_in rows object ≡ depth = omega arith in
          let a : Access = Sorted (0 + list) (row_at rows (suc depth)).object (row_at rows (suc depth)).grade in
          (a, Contains-append_left (sorted_block 0 (suc depth) D) asks a (contains_sorted 0 list (suc depth) D l), row_there n depth object D rows t (list_at_contains D list l) here placed, number)
      | inr lower ↦
          let a : Access = Random (0 + list) object (grade_in rows object) in
          (a, Contains-append_right (sorted_block 0 (suc depth) D) asks a (in_flat_map (λ o. random_block 0 (suc depth) o D) (new_objects D (suc depth)) object a (new_there n depth object D t here unseen seen) (block_asks 0 list (suc depth) object D l lower)), refl, number)
    ]

-- ---- so all grades of an object that stands are known
pub stands_known : (n depth object list : ℕ) (D : List (List Row)) → IsTable n D → Contains (objects_of D) object → stands D depth object ≡ true
    → list < length D → is_none (known_grade (ta_run_to D depth) object list) ≡ false
stands_known n zero object list D t here seen l = let from = stands_from D zero object seen in let low = from.2 in absurd (omega arith)
stands_known n (suc depth) object list D t here seen l =
    elim (cases_Bool (stands D depth object)) [
      | inl above ↦ elim (option_cases (known_grade (ta_run_to D depth) object list)) [
        | inl none ↦ absurd (true≢false (ap (λ (o : Option ℕ). is_none o) (sym none) ∙ stands_known n depth object list D t here above l))
        | inr some ↦ ap (λ (o : Option ℕ). is_none o) (known_grade_kept (ta_run_to D depth) (ta_block D (suc depth)) object list some.0 some.1)
      ]
      | inr unseen ↦
          let by = block_knows n depth object list D t here unseen seen l in
          access_known (ta_run_to D (suc depth)) by.0 object list (Contains-append_right (ta_run_to D depth) (ta_block D (suc depth)) by.0 by.1) by.2 by.3
    ]

-- where all grades of an object are known, both its bounds are its aggregate
pub record IsExact (V : List ℕ → ℕ) (m : ℕ) (D : List (List Row)) (A : List Access) (object : ℕ) : Type 0 where
  pub lowest : low V m A object ≡ aggregate V D object
  pub highest : high V m A object ≡ aggregate V D object

pub known_exact : (V : List ℕ → ℕ) (m n : ℕ) (D : List (List Row)) (A : List Access) (object : ℕ) → Agrees m n D A
    → ((list : ℕ) → list < m → is_none (known_grade A object list) ≡ false) → IsExact V m D A object
known_exact V m n D A object agrees known =
    let by : (other : ℕ → ℕ) (list : ℕ) → list < m → unwrap_or (known_grade A object list) (other list) ≡ grade_in (list_at D list) object = λ other list l.
    elim (option_cases (known_grade A object list)) [
      | inl none ↦ absurd (true≢false (ap (λ (o : Option ℕ). is_none o) (sym none) ∙ known list l))
      | inr some ↦ ap (λ o. unwrap_or o (other list)) some.1 ∙ sym (known_grade_is m n D A object list some.0 agrees l some.1)
    ] in
    let same : (other : ℕ → ℕ) → V (map (λ list. unwrap_or (known_grade A object list) (other list)) (list_numbers m)) ≡ aggregate V D object = λ other.
    ap V (same_places (λ list. unwrap_or (known_grade A object list) (other list)) (λ list. grade_in (list_at D list) object) m 0 m (omega arith) (by other)
    ∙ sym (grades_by_number m D object agrees.lists)) in
    record { lowest = same (λ list. 0); highest = same (λ list. bottom_of list A) }

-- ---- and the threshold is that of the depth
last_taken : (above : ℕ) (rows : List Row) (at : ℕ) → at < length rows → last_grade above (take (suc at) rows) ≡ (slice_index_or rows at no_row).grade
last_taken above [] at l = absurd (omega arith)
last_taken above (row ∷ rows) zero l = refl
last_taken above (row ∷ rows) (suc at) l = last_taken row.grade rows at (omega arith)

pub bottom_at : (n depth list : ℕ) (D : List (List Row)) → IsTable n D → 1 ≤ depth → depth ≤ n → list < length D
    → bottom_of list (ta_run_to D depth) ≡ (row_at (list_at D list) depth).grade
bottom_at n depth list D t one within l =
    let rows = list_at D list in
    let long : length rows ≡ n = list_at_length n D list t l in
    let deep : depth ≡ suc (depth - 1) = omega arith in
    ap (last_grade top_grade) (run_rows n D list depth t l within ∙ ap (λ d. take d rows) deep) ∙ last_taken top_grade rows (depth - 1) (omega arith)

pub threshold_there : (V : List ℕ → ℕ) (n depth : ℕ) (D : List (List Row)) → IsTable n D → 1 ≤ depth → depth ≤ n
    → threshold V (length D) (ta_run_to D depth) ≡ threshold_at V D depth
threshold_there V n depth D t one within =
    let m : ℕ = length D in
    ap V (same_places (λ list. bottom_of list (ta_run_to D depth)) (λ list. (row_at (list_at D list) depth).grade) m 0 m (omega arith) (λ list l. bottom_at n depth list D t one within l)
    ∙ sym (map_places (λ rows. (row_at rows depth).grade) D 0 D refl))
