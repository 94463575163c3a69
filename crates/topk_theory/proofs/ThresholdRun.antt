-- What the threshold algorithm reads of a table: the run agrees with the table, sees what stands down to its depth, and is tame.
use Rattle.std.proofs.Common.{◌≡◌, ℕ, zero, suc, ◌+◌, ◌-◌, ◌<◌, ◌≤◌, ◌⊎◌, inl, inr, true, not, cond, ◌==◌, List, [], ◌∷◌, ◌++◌, length, map, take, Contains, Option, Some, None, slice_index_or, filter_map, refl, sym, ap, subst, ◌∙◌, arith, append_assoc, append-nil, eq-eqb}
use Rattle.std.specs.List.{flat_map, cons_option}
use Rattle.std.proofs.lemmas.Bool.{cases_Bool, cases_lt, lt-ltb, le-ltb, ne_eqb, eqb-true}
use Rattle.std.proofs.lemmas.List.Elements.{Contains-append_left, Contains-append_right, Contains-append_cases}
use Rattle.std.proofs.Math.Seq.{take-suc}
use Rattle.std.proofs.lemmas.List.{length-take-le}
use Rattle.ranked_list.specs.declared.row.Row.{Row}
use Rattle.ranked_list.specs.Table.{objects, IsRanked, IsTable, place_in, grade_in}
use Rattle.topk_theory.specs.declared.access.Access.{Access}
use Rattle.topk_theory.specs.declared.access.Access.TheVariants.{Sorted, Random}
use Rattle.topk_theory.specs.Aggregate.{objects_of}
use Rattle.topk_theory.specs.Transcript.{Agrees, Begins, list_at, list_of, object_of, sorted_rows, random_rows, random_row, sorted_object, seen_objects, IsTame, each_once}
use Rattle.topk_theory.specs.Threshold.{row_at, stands, sorted_block, new_objects, random_block, ta_block, ta_run_to}
use Rattle.topk_theory.proofs.AgreementLists.{contains_nil, contains_here, contains_there, contains_cases, contains_at, contains_map_from, all_from_members}
use Rattle.topk_theory.proofs.AgreementNames.{each_once_within, each_once_complete}
use Rattle.topk_theory.proofs.AgreementRows.{object_of_row, row_of_object, list_at_contains, list_at_length}
use Rattle.topk_theory.proofs.Agreement.{sorted_rows_append}
use Rattle.topk_theory.proofs.ThresholdLists.{contains_flat_map, contains_from_filter}
use Rattle.ranked_list.proofs.RankLaws.{no_row}
use Rattle.topk_theory.proofs.ThresholdTables.{place_in-lt, place_in-object, object-at_place}
use Rattle.topk_theory.proofs.ThresholdDepth.{list_ranked, list_sized, list_holds, table_holds, stands_within, stands_from}

-- the members of a list that is made by a choice
pub contains_filter_map : {X Y : Type 0} (h : X → Option Y) (xs : List X) (x : X) (y : Y) → Contains xs x → h x ≡ Some y → Contains (filter_map h xs) y
contains_filter_map h [] x y c e = absurd (contains_nil x c)
contains_filter_map h (z ∷ xs) x y c e =
    elim (contains_cases z xs x c) [
      | inl same ↦ let chosen : h z ≡ Some y = ap h same ∙ e in subst (λ o. Contains (cons_option o (filter_map h xs)) y) (sym chosen) (contains_here y (filter_map h xs))
      | inr r ↦ later (h z) (filter_map h xs) y (contains_filter_map h xs x y r e)
    ]
  where
    later : {Y : Type 0} (o : Option Y) (ys : List Y) (y : Y) → Contains ys y → Contains (cons_option o ys) y
    later None ys y c = c
    later (Some z) ys y c = contains_there z ys y c

pub contains_from_filter_map : {X Y : Type 0} (h : X → Option Y) (xs : List X) (y : Y) → Contains (filter_map h xs) y → (x : X) × Contains xs x × (h x ≡ Some y)
contains_from_filter_map h [] y c = absurd (contains_nil y c)
contains_from_filter_map {X} {Y} h (x ∷ xs) y c =
    elim (split (h x) (filter_map h xs) y c) [
      | inl e ↦ (x, contains_here x xs, e)
      | inr r ↦ let k = contains_from_filter_map h xs y r in (k.0, contains_there x xs k.0 k.1, k.2)
    ]
  where
    split : (o : Option Y) (ys : List Y) (y : Y) → Contains (cons_option o ys) y → (o ≡ Some y) ⊎ Contains ys y
    split None ys y c = inr c
    split (Some z) ys y c = elim (contains_cases z ys y c) [ inl e ↦ inl (ap Some e) | inr r ↦ inr r ]

-- the lists of a table by number and as members
pub list_number : (D : List (List Row)) (rows : List Row) → Contains D rows → (i : ℕ) × (i < length D) × (list_at D i ≡ rows)
list_number [] rows h = absurd (contains_nil rows h)
list_number (first ∷ lists) rows h =
    elim (contains_cases first lists rows h) [
      | inl e ↦ (0, omega arith, e)
      | inr r ↦ let k = list_number lists rows r in (suc k.0, omega (arith, k.1), k.2)
    ]

-- a sorted block gives one row of each list
block_of_others : (list start depth : ℕ) (D : List (List Row)) → list < start → sorted_rows list (sorted_block start depth D) ≡ []
block_of_others list start depth [] l = refl
block_of_others list start depth (rows ∷ D) l =
    ap (λ b. cons_option (cond b (Some (row_at rows depth)) None) (sorted_rows list (sorted_block (start + 1) depth D))) (ne_eqb start list (λ e. absurd (omega arith)))
    ∙ block_of_others list (start + 1) depth D (omega arith)

pub block_of_list : (list start i depth : ℕ) (D : List (List Row)) → list ≡ start + i → i < length D
    → sorted_rows list (sorted_block start depth D) ≡ row_at (list_at D i) depth ∷ []
block_of_list list start i depth [] e l = absurd (omega arith)
block_of_list list start zero depth (rows ∷ D) e l =
    ap (λ b. cons_option (cond b (Some (row_at rows depth)) None) (sorted_rows list (sorted_block (start + 1) depth D))) (eq-eqb start list (omega arith))
    ∙ ap (λ rest. row_at rows depth ∷ rest) (block_of_others list (start + 1) depth D (omega arith))
block_of_list list start (suc i) depth (rows ∷ D) e l =
    ap (λ b. cons_option (cond b (Some (row_at rows depth)) None) (sorted_rows list (sorted_block (start + 1) depth D))) (ne_eqb start list (λ same. absurd (omega arith)))
    ∙ block_of_list list (start + 1) i depth D (omega arith) (omega arith)

-- random accesses give no row from the top
pub random_block_here : (start depth object : ℕ) (rows : List Row) (D : List (List Row)) → place_in rows object < depth
    → random_block start depth object (rows ∷ D) ≡ random_block (start + 1) depth object D
random_block_here start depth object rows D l =
    ap (λ b. cond b (random_block (start + 1) depth object D) (Random start object (grade_in rows object) ∷ random_block (start + 1) depth object D)) (lt-ltb (place_in rows object) depth l)

pub random_block_lower : (start depth object : ℕ) (rows : List Row) (D : List (List Row)) → depth ≤ place_in rows object
    → random_block start depth object (rows ∷ D) ≡ Random start object (grade_in rows object) ∷ random_block (start + 1) depth object D
random_block_lower start depth object rows D l =
    ap (λ b. cond b (random_block (start + 1) depth object D) (Random start object (grade_in rows object) ∷ random_block (start + 1) depth object D)) (le-ltb (place_in rows object) depth l)

pub block_of_random : (list start depth object : ℕ) (D : List (List Row)) → sorted_rows list (random_block start depth object D) ≡ []
block_of_random list start depth object [] = refl
block_of_random list start depth object (rows ∷ D) =
    elim (cases_lt (place_in rows object) depth) [
      | inl l ↦ ap (sorted_rows list) (random_block_here start depth object rows D l) ∙ block_of_random list (start + 1) depth object D
      | inr l ↦ ap (sorted_rows list) (random_block_lower start depth object rows D l) ∙ block_of_random list (start + 1) depth object D
    ]

pub block_of_randoms : (list depth : ℕ) (D : List (List Row)) (os : List ℕ) → sorted_rows list (flat_map (λ object. random_block 0 depth object D) os) ≡ []
block_of_randoms list depth D [] = refl
block_of_randoms list depth D (o ∷ os) =
    sorted_rows_append list (random_block 0 depth o D) (flat_map (λ object. random_block 0 depth object D) os)
    ∙ ap (λ rows. rows ++ sorted_rows list (flat_map (λ object. random_block 0 depth object D) os)) (block_of_random list 0 depth o D)
    ∙ block_of_randoms list depth D os

pub block_rows : (list depth : ℕ) (D : List (List Row)) → list < length D → sorted_rows list (ta_block D depth) ≡ row_at (list_at D list) depth ∷ []
block_rows list depth D l =
    sorted_rows_append list (sorted_block 0 depth D) (flat_map (λ object. random_block 0 depth object D) (new_objects D depth))
    ∙ ap (λ rows. sorted_rows list (sorted_block 0 depth D) ++ rows) (block_of_randoms list depth D (new_objects D depth))
    ∙ append-nil (sorted_rows list (sorted_block 0 depth D))
    ∙ block_of_list list 0 list depth D (omega arith) l

-- down to a depth the run has read so many rows of each list
pub run_rows : (n : ℕ) (D : List (List Row)) (list depth : ℕ) → IsTable n D → list < length D → depth ≤ n
    → sorted_rows list (ta_run_to D depth) ≡ take depth (list_at D list)
run_rows n D list zero t l within = refl
run_rows n D list (suc depth) t l within =
    let rows = list_at D list in
    let long : length rows ≡ n = list_at_length n D list t l in
    let inside : depth < length rows = omega arith in
    let at : suc depth - 1 ≡ depth = omega arith in
    sorted_rows_append list (ta_run_to D depth) (ta_block D (suc depth))
    ∙ ap (λ above. above ++ sorted_rows list (ta_block D (suc depth))) (run_rows n D list depth t l (omega arith))
    ∙ ap (λ below. take depth rows ++ below) (block_rows list (suc depth) D l)
    ∙ ap (λ p. take depth rows ++ slice_index_or rows p no_row ∷ []) at
    ∙ sym (take-suc rows depth no_row inside)

-- the members of a block
pub sorted_members : (start depth : ℕ) (D : List (List Row)) (a : Access) → Contains (sorted_block start depth D) a
    → (i : ℕ) × (i < length D) × (a ≡ Sorted (start + i) (row_at (list_at D i) depth).object (row_at (list_at D i) depth).grade)
sorted_members start depth [] a h = absurd (contains_nil a h)
sorted_members start depth (rows ∷ D) a h =
    elim (contains_cases (Sorted start (row_at rows depth).object (row_at rows depth).grade) (sorted_block (start + 1) depth D) a h) [
      | inl e ↦ (0, omega arith, sym e ∙ ap (λ l. Sorted l (row_at rows depth).object (row_at rows depth).grade) (omega arith))
      | inr r ↦
          let k = sorted_members (start + 1) depth D a r in
          (suc k.0, omega (arith, k.1), k.2 ∙ ap (λ l. Sorted l (row_at (list_at D k.0) depth).object (row_at (list_at D k.0) depth).grade) (omega arith))
    ]

pub contains_sorted : (start i depth : ℕ) (D : List (List Row)) → i < length D
    → Contains (sorted_block start depth D) (Sorted (start + i) (row_at (list_at D i) depth).object (row_at (list_at D i) depth).grade)
contains_sorted start i depth [] l = absurd (omega arith)
contains_sorted start zero depth (rows ∷ D) l =
    let e : start ≡ start + 0 = omega arith in
    subst (λ list. Contains (sorted_block start depth (rows ∷ D)) (Sorted list (row_at rows depth).object (row_at rows depth).grade)) e
    (contains_here (Sorted start (row_at rows depth).object (row_at rows depth).grade) (sorted_block (start + 1) depth D))
contains_sorted start (suc i) depth (rows ∷ D) l =
    let e : start + 1 + i ≡ start + suc i = omega arith in
    subst (λ list. Contains (sorted_block start depth (rows ∷ D)) (Sorted list (row_at (list_at D i) depth).object (row_at (list_at D i) depth).grade)) e
    (contains_there (Sorted start (row_at rows depth).object (row_at rows depth).grade) (sorted_block (start + 1) depth D) _ (contains_sorted (start + 1) i depth D (omega arith)))

pub random_members : (start depth object : ℕ) (D : List (List Row)) (a : Access) → Contains (random_block start depth object D) a
    → (i : ℕ) × (i < length D) × (a ≡ Random (start + i) object (grade_in (list_at D i) object))
random_members start depth object [] a h = absurd (contains_nil a h)
random_members start depth object (rows ∷ D) a h =
    elim (cases_lt (place_in rows object) depth) [
      | inl l ↦ further (random_members (start + 1) depth object D a (subst (λ B. Contains B a) (random_block_here start depth object rows D l) h))
      | inr l ↦ elim (contains_cases (Random start object (grade_in rows object)) (random_block (start + 1) depth object D) a (subst (λ B. Contains B a) (random_block_lower start depth object rows D l) h)) [
        | inl e ↦ (0, omega arith, sym e ∙ ap (λ l. Random l object (grade_in rows object)) (omega arith))
        | inr r ↦ further (random_members (start + 1) depth object D a r)
      ]
    ]
  where
    further : (i : ℕ) × (i < length D) × (a ≡ Random (start + 1 + i) object (grade_in (list_at D i) object))
        → (i : ℕ) × (i < length (rows ∷ D)) × (a ≡ Random (start + i) object (grade_in (list_at (rows ∷ D) i) object))
    further k = (suc k.0, omega (arith, k.1), k.2 ∙ ap (λ l. Random l object (grade_in (list_at D k.0) object)) (omega arith))

-- an object of a row of the table is one of its objects
pub row_object : (n : ℕ) (D : List (List Row)) (rows : List Row) (depth : ℕ) → IsTable n D → Contains D rows → 1 ≤ depth → depth ≤ n
    → Contains (objects rows) (row_at rows depth).object
row_object n D rows depth t h positive within =
    let long : length rows ≡ n = list_sized n D rows t h in
    object_of_row rows (row_at rows depth) (contains_at rows (depth - 1) no_row (omega arith))

pub new_is_object : (n : ℕ) (D : List (List Row)) (object depth : ℕ) → IsTable n D → 1 ≤ depth → depth ≤ n → Contains (new_objects D depth) object
    → (rows : List Row) × Contains D rows × ((row_at rows depth).object ≡ object) × Contains (objects_of D) object
new_is_object n D object depth t positive within h =
    let kept = contains_from_filter (λ (object : ℕ). not (stands D (depth - 1) object)) (each_once (map (λ (rows : List Row). (row_at rows depth).object) D)) object h in
    let from = contains_map_from (λ (rows : List Row). (row_at rows depth).object) D object (each_once_within (map (λ (rows : List Row). (row_at rows depth).object) D) object kept.0) in
    (from.0, from.1, from.2, subst (λ o. Contains (objects_of D) o) from.2 (table_holds n D from.0 (row_at from.0 depth).object t from.1 (row_object n D from.0 depth t from.1 positive within)))

-- what an access of a block is
abbrev IsGivenAt : List (List Row) → Access → Type 0
IsGivenAt D (Sorted list object grade) = list < length D
IsGivenAt D (Random list object grade) = (list < length D) × Contains (list_at D list) (record { object = object; grade = grade })

block_given : (n : ℕ) (D : List (List Row)) (depth : ℕ) (a : Access) → IsTable n D → 1 ≤ depth → depth ≤ n → Contains (ta_block D depth) a → IsGivenAt D a
block_given n D depth a t positive within h =
    elim (Contains-append_cases (sorted_block 0 depth D) (flat_map (λ object. random_block 0 depth object D) (new_objects D depth)) a h) [
      | inl s ↦ let k = sorted_members 0 depth D a s in subst (IsGivenAt D) (sym k.2) (omega (arith, k.1))
      | inr r ↦
          let piece = contains_flat_map (λ object. random_block 0 depth object D) (new_objects D depth) a r in
          let new = new_is_object n D piece.0 depth t positive within piece.1 in
          let k = random_members 0 depth piece.0 D a piece.2 in
          let number : 0 + k.0 ≡ k.0 = omega arith in
          let held : Contains (objects (list_at D k.0)) piece.0 = list_holds n D (list_at D k.0) piece.0 t (list_at_contains D k.0 k.1) new.3 in
          subst (IsGivenAt D) (sym (k.2 ∙ ap (λ l. Random l piece.0 (grade_in (list_at D k.0) piece.0)) number)) (k.1, row_of_object (list_at D k.0) piece.0 held)
    ]

pub run_members : (D : List (List Row)) (depth : ℕ) (a : Access) → Contains (ta_run_to D depth) a → (j : ℕ) × (1 ≤ j) × (j ≤ depth) × Contains (ta_block D j) a
run_members D zero a h = absurd (contains_nil a h)
run_members D (suc depth) a h =
    elim (Contains-append_cases (ta_run_to D depth) (ta_block D (suc depth)) a h) [
      | inl r ↦ let k = run_members D depth a r in (k.0, k.1, omega (arith, k.2), k.3)
      | inr b ↦ (suc depth, omega arith, omega arith, b)
    ]

pub contains_run : (D : List (List Row)) (depth j : ℕ) (a : Access) → 1 ≤ j → j ≤ depth → Contains (ta_block D j) a → Contains (ta_run_to D depth) a
contains_run D zero j a positive within h = absurd (omega arith)
contains_run D (suc depth) j a positive within h =
    elim (cases_lt j (suc depth)) [
      | inl l ↦ Contains-append_left (ta_run_to D depth) (ta_block D (suc depth)) a (contains_run D depth j a positive (omega arith) h)
      | inr l ↦ let e : j ≡ suc depth = omega arith in Contains-append_right (ta_run_to D depth) (ta_block D (suc depth)) a (subst (λ d. Contains (ta_block D d) a) e h)
    ]

run_given : (n : ℕ) (D : List (List Row)) (depth : ℕ) (a : Access) → IsTable n D → depth ≤ n → Contains (ta_run_to D depth) a → IsGivenAt D a
run_given n D depth a t within h = let k = run_members D depth a h in block_given n D k.0 a t k.1 (omega (arith, k.2)) k.3

given_in_range : (D : List (List Row)) (a : Access) → IsGivenAt D a → list_of a < length D
given_in_range D (Sorted list object grade) g = g
given_in_range D (Random list object grade) g = g.0

given_random : (D : List (List Row)) (list : ℕ) (a : Access) (row : Row) → IsGivenAt D a → random_row list a ≡ Some row → Contains (list_at D list) row
given_random D list (Sorted other object grade) row g e = absurd (cc)
given_random D list (Random other object grade) row g e =
    elim (cases_Bool (other == list)) [
      | inl t ↦
          let chosen : Some (record { object = object; grade = grade }) ≡ Some row = sym (ap (λ b. cond b (Some (record { object = object; grade = grade })) None) t) ∙ e in
          let same : record { object = object; grade = grade } ≡ row = cc in
          subst (λ r. Contains (list_at D list) r) same (subst (λ l. Contains (list_at D l) (record { object = object; grade = grade })) (eqb-true other list t) g.1)
      | inr f ↦ let none : None ≡ Some row = sym (ap (λ b. cond b (Some (record { object = object; grade = grade })) None) f) ∙ e in absurd (cc)
    ]

-- the table agrees with the run
pub run_agrees : (n : ℕ) (D : List (List Row)) (depth : ℕ) → IsTable n D → depth ≤ n → Agrees (length D) n D (ta_run_to D depth)
run_agrees n D depth t within = record {
  lists = refl;
  table = t;
  drawn = record {
    in_range = all_from_members (λ access. list_of access < length D) (ta_run_to D depth) (λ a h. given_in_range D a (run_given n D depth a t within h));
    sorted = λ list l.
        let e : sorted_rows list (ta_run_to D depth) ≡ take depth (list_at D list) = run_rows n D list depth t l within in
        let long : length (list_at D list) ≡ n = list_at_length n D list t l in
        subst (λ rows. Begins rows (list_at D list)) (sym e) (ap (λ p. take p (list_at D list)) (length-take-le depth (list_at D list) (omega arith)));
    random = λ list l. all_from_members (Contains (list_at D list)) (random_rows list (ta_run_to D depth)) (λ row h.
        let from = contains_from_filter_map (random_row list) (ta_run_to D depth) row h in
        given_random D list from.0 row (run_given n D depth from.0 t within from.1) from.2);
  };
}

-- what a sorted access gives is seen
pub seen_from_access : (A : List Access) (list object grade : ℕ) → Contains A (Sorted list object grade) → Contains (seen_objects A) object
seen_from_access A list object grade h =
    each_once_complete (filter_map sorted_object A) object (contains_filter_map sorted_object A (Sorted list object grade) object h refl)

pub access_from_seen : (A : List Access) (object : ℕ) → Contains (seen_objects A) object → (list : ℕ) × (grade : ℕ) × Contains A (Sorted list object grade)
access_from_seen A object h =
    let from = contains_from_filter_map sorted_object A object (each_once_within (filter_map sorted_object A) object h) in
    by_access from.0 from.1 from.2
  where
    by_access : (a : Access) → Contains A a → sorted_object a ≡ Some object → (list : ℕ) × (grade : ℕ) × Contains A (Sorted list object grade)
    by_access (Sorted list other grade) c e = let same : other ≡ object = cc in (list, grade, subst (λ o. Contains A (Sorted list o grade)) same c)
    by_access (Random list other grade) c e = absurd (cc)

pub seen_more : (A B : List Access) (object : ℕ) → Contains (seen_objects A) object → Contains (seen_objects (A ++ B)) object
seen_more A B object h = let k = access_from_seen A object h in seen_from_access (A ++ B) k.0 object k.1 (Contains-append_left A B (Sorted k.0 object k.1) k.2)

-- the run sees what stands down to its depth, and nothing else
pub run_sees : (n : ℕ) (D : List (List Row)) (depth object : ℕ) → IsTable n D → stands D depth object ≡ true → Contains (objects_of D) object
    → Contains (seen_objects (ta_run_to D depth)) object
run_sees n D depth object t s o =
    let from = stands_from D depth object s in
    let number = list_number D from.0 from.1 in
    let j : ℕ = suc (place_in from.0 object) in
    let here : place_in from.0 object < length from.0 = place_in-lt from.0 object (list_holds n D from.0 object t from.1 o) in
    let same : (row_at (list_at D number.0) j).object ≡ object = ap (λ rows. (row_at rows j).object) number.2 ∙ ap (λ p. (slice_index_or from.0 p no_row).object) (omega arith) ∙ object-at_place from.0 object no_row here in
    let a : Access = Sorted (0 + number.0) (row_at (list_at D number.0) j).object (row_at (list_at D number.0) j).grade in
    let placed : Contains (ta_run_to D depth) a =
    contains_run D depth j a (omega arith) (omega (arith, from.2)) (Contains-append_left (sorted_block 0 j D) (flat_map (λ object. random_block 0 j object D) (new_objects D j)) a (contains_sorted 0 number.0 j D number.1)) in
    subst (λ o. Contains (seen_objects (ta_run_to D depth)) o) same (seen_from_access (ta_run_to D depth) (0 + number.0) (row_at (list_at D number.0) j).object (row_at (list_at D number.0) j).grade placed)

-- an object at a depth of a list stands there
pub object_stands : (n : ℕ) (D : List (List Row)) (rows : List Row) (j depth : ℕ) → IsTable n D → Contains D rows → 1 ≤ j → j ≤ depth → j ≤ n
    → stands D depth (row_at rows j).object ≡ true
object_stands n D rows j depth t h positive within fits =
    let long : length rows ≡ n = list_sized n D rows t h in
    let ranked : IsRanked rows = list_ranked n D rows t h in
    let place : place_in rows (row_at rows j).object ≡ j - 1 = place_in-object rows (j - 1) no_row ranked.distinct (omega arith) in
    stands_within D rows depth (row_at rows j).object h (omega arith)

pub seen_stands : (n : ℕ) (D : List (List Row)) (depth object : ℕ) → IsTable n D → depth ≤ n → Contains (seen_objects (ta_run_to D depth)) object
    → stands D depth object ≡ true
seen_stands n D depth object t within h =
    let from = access_from_seen (ta_run_to D depth) object h in
    let block = run_members D depth (Sorted from.0 object from.1) from.2 in
    elim (Contains-append_cases (sorted_block 0 block.0 D) (flat_map (λ object. random_block 0 block.0 object D) (new_objects D block.0)) (Sorted from.0 object from.1) block.3) [
      | inl s ↦
          let k = sorted_members 0 block.0 D (Sorted from.0 object from.1) s in
          let same : object ≡ (row_at (list_at D k.0) block.0).object = ap object_of k.2 in
          subst (λ o. stands D depth o ≡ true) (sym same) (object_stands n D (list_at D k.0) block.0 depth t (list_at_contains D k.0 k.1) block.1 block.2 (omega (arith, block.2)))
      | inr r ↦
          let piece = contains_flat_map (λ object. random_block 0 block.0 object D) (new_objects D block.0) (Sorted from.0 object from.1) r in
          let k = random_members 0 block.0 piece.0 D (Sorted from.0 object from.1) piece.2 in
          absurd (not_both from.0 object from.1 (0 + k.0) piece.0 (grade_in (list_at D k.0) piece.0) k.2)
    ]
  where
    not_both : (l o g l' o' g' : ℕ) → Sorted l o g ≡ Random l' o' g' → ⊥
    not_both l o g l' o' g' e = cc

-- where a list of two parts is cut
cut : {X : Type 0} (xs ys zs : List X) (w : X) (ws : List X) → xs ++ ys ≡ zs ++ w ∷ ws
    → ((us : List X) × (xs ≡ zs ++ w ∷ us)) ⊎ ((us : List X) × (zs ≡ xs ++ us) × (ys ≡ us ++ w ∷ ws))
cut [] ys zs w ws e = inr (zs, refl, e)
cut (x ∷ xs) ys [] w ws e = let same : x ≡ w = cc in inl (xs, ap (λ z. z ∷ xs) same)
cut (x ∷ xs) ys (z ∷ zs) w ws e =
    let same : x ≡ z = cc in
    let rest : xs ++ ys ≡ zs ++ w ∷ ws = cc in
    elim (cut xs ys zs w ws rest) [
      | inl k ↦ inl (k.0, same_cons x z xs (zs ++ w ∷ k.0) same k.1)
      | inr k ↦ inr (k.0, same_cons z x zs (xs ++ k.0) (sym same) k.1, k.2)
    ]
  where
    same_cons : {X : Type 0} → (a b : X) (xs ys : List X) → a ≡ b → xs ≡ ys → a ∷ xs ≡ b ∷ ys
    same_cons a b xs ys p q = cc

-- random accesses of seen objects leave a transcript tame
pub tame_append : (A B : List Access) → IsTame A → ((list object grade : ℕ) → Contains B (Random list object grade) → Contains (seen_objects A) object)
    → IsTame (A ++ B)
tame_append A B tame more earlier later list object grade e =
    elim (cut A B earlier (Random list object grade) later e) [
      | inl k ↦ tame earlier k.0 list object grade k.1
      | inr k ↦ subst (λ C. Contains (seen_objects C) object) (sym k.1)
          (seen_more A k.0 object (more list object grade (subst (λ C. Contains C (Random list object grade)) (sym k.2) (Contains-append_right k.0 (Random list object grade ∷ later) (Random list object grade) (contains_here (Random list object grade) later)))))
    ]

tame_none : IsTame []
tame_none [] later list object grade e = absurd (cc)
tame_none (a ∷ earlier) later list object grade e = absurd (cc)

-- the run makes no wild guess
pub run_tame : (n : ℕ) (D : List (List Row)) (depth : ℕ) → IsTable n D → depth ≤ n → IsTame (ta_run_to D depth)
run_tame n D zero t within = tame_none
run_tame n D (suc depth) t within =
    let A = ta_run_to D depth in
    let S = sorted_block 0 (suc depth) D in
    let R = flat_map (λ object. random_block 0 (suc depth) object D) (new_objects D (suc depth)) in
    subst IsTame (append_assoc A S R)
    (tame_append (A ++ S) R
    (tame_append A S (run_tame n D depth t (omega arith)) (λ list object grade h.
    let k = sorted_members 0 (suc depth) D (Random list object grade) h in
    absurd (not_both list object grade (0 + k.0) (row_at (list_at D k.0) (suc depth)).object (row_at (list_at D k.0) (suc depth)).grade k.2)))
    (λ list object grade h.
    let piece = contains_flat_map (λ object. random_block 0 (suc depth) object D) (new_objects D (suc depth)) (Random list object grade) h in
    let k = random_members 0 (suc depth) piece.0 D (Random list object grade) piece.2 in
    let same : object ≡ piece.0 = ap object_of k.2 in
    let new = new_is_object n D piece.0 (suc depth) t (omega arith) within piece.1 in
    let number = list_number D new.0 new.1 in
    let row : Row = row_at (list_at D number.0) (suc depth) in
    let is_row : row.object ≡ object = ap (λ rows. (row_at rows (suc depth)).object) number.2 ∙ new.2 ∙ sym same in
    subst (λ o. Contains (seen_objects (A ++ S)) o) is_row
    (seen_from_access (A ++ S) (0 + number.0) row.object row.grade (Contains-append_right A S (Sorted (0 + number.0) row.object row.grade) (contains_sorted 0 number.0 (suc depth) D number.1)))))
  where
    not_both : (l o g l' o' g' : ℕ) → Random l o g ≡ Sorted l' o' g' → ⊥
    not_both l o g l' o' g' e = cc
