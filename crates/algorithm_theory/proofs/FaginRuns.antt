-- What the algorithm reads of a table: the rows agree with it, and so do the grades of the seen objects, all of which are known then.
use Rattle.std.proofs.Common.{◌≡◌, inl, inr, ℕ, zero, suc, ◌+◌, ◌*◌, ◌<◌, ◌≤◌, false, cond, List, [], ◌∷◌, ◌++◌, length, take, filter_map, All, Contains, Option, Some, None, is_none, refl, sym, ap, subst, ◌∙◌, arith, eq-eqb, append-nil, length-append}
use Rattle.std.specs.List.{flat_map}
use Rattle.std.proofs.lemmas.Bool.{cases_Bool}
use Rattle.std.proofs.lemmas.List.{length-map, length-take-le}
use Rattle.std.proofs.lemmas.List.FromFn.{length-range_with_len}
use Rattle.std.proofs.lemmas.List.Elements.{Contains-append_left, Contains-append_right, filter_map-append}
use Rattle.std.proofs.Math.Nat.{mul-le-mul_left}
use Rattle.ranked_list.specs.declared.row.Row.{Row}
use Rattle.ranked_list.specs.Table.{grade_in}
use Rattle.ranked_list.proofs.OptionLaws.{option_cases, none_if_is_none}
use Rattle.topk_theory.specs.declared.access.Access.{Access}
use Rattle.topk_theory.specs.declared.access.Access.TheVariants.{Random}
use Rattle.topk_theory.specs.Transcript.{Agrees, IsTame, list_at, list_numbers, random_row, random_rows, sorted_rows, sorted_object, each_once, seen_objects, depth}
use Rattle.topk_theory.specs.Bounds.{known_grade}
use Rattle.monotone_fn.specs.Value.{IsMonotone}
use Rattle.topk_theory.specs.Threshold.{IsAsked, sorted_block, ta_depth}
use Rattle.topk_theory.specs.NoRandom.{nra_run_to}
use Rattle.topk_theory.specs.Combined.{unknown_lists, missing_grades}
use Rattle.topk_theory.proofs.AgreementLists.{contains_nil, contains_here, contains_there, contains_cases, contains_map, contains_map_from, all_from_members}
use Rattle.topk_theory.proofs.AgreementRows.{list_at_length, object_of_row, grade_among_none}
use Rattle.topk_theory.proofs.Agreement.{contains_middle, known_grade_kept, seen_in_table, seen_count, sorted_rows_append}
use Rattle.topk_theory.proofs.ConsistentTable.{random_given}
use Rattle.topk_theory.proofs.ListNumbers.{number_below, number_in}
use Rattle.topk_theory.proofs.ThresholdLists.{contains_filter, contains_from_filter, contains_flat_map, filter_fits}
use Rattle.topk_theory.proofs.ThresholdRun.{contains_filter_map}
use Rattle.topk_theory.proofs.NoRandomRun.{run_rows, run_random}
use Rattle.topk_theory.proofs.NoRandomLaws.{run_agrees}
use Rattle.topk_theory.proofs.CombinedRun.{Asks, asks_unsorted, asks_agree, asks_tame}
use Rattle.algorithm_theory.specs.Optimal.{IsAlwaysRun}
use Rattle.algorithm_theory.proofs.NearBestDepths.{depth_is}
use Rattle.algorithm_theory.specs.Fagin.{fa_depth, fa_rows, fa_seen, fa_asks, fa_run, IsNoShallower}
use Rattle.algorithm_theory.proofs.FaginCommon.{none_unknown}
use Rattle.algorithm_theory.proofs.FaginLeast.{fa_depth_is_least, ta_is_no_deeper}

-- ---- the accesses after the rows ask for seen objects
pub each_asks : (D : List (List Row)) (A : List Access) (objects : List ℕ) (may : ℕ → Type 0) (a : Access) → ((o : ℕ) → Contains objects o → may o)
    → Contains (flat_map (missing_grades D A) objects) a → Asks D may a
each_asks D A objects may a allowed c =
    let piece = contains_flat_map (missing_grades D A) objects a c in
    let from = contains_map_from (λ list. Random list piece.0 (grade_in (list_at D list) piece.0)) (unknown_lists (length D) A piece.0) a piece.2 in
    let kept = contains_from_filter (λ list. is_none (known_grade A piece.0 list)) (list_numbers (length D)) from.0 from.1 in
    record { list = from.0; object = piece.0; is = sym from.2; within = number_below (length D) from.0 kept.0; allowed = allowed piece.0 piece.1 }

pub fa_asks_seen : (k : ℕ) (D : List (List Row)) (a : Access) → Contains (fa_asks k D) a → Asks D (Contains (fa_seen k D)) a
fa_asks_seen k D a c = each_asks D (fa_rows k D) (fa_seen k D) (Contains (fa_seen k D)) a (λ o h. h) c

pub fa_rows_agree : (k n : ℕ) (D : List (List Row)) → IsAsked k n D → Agrees (length D) n D (fa_rows k D)
fa_rows_agree k n D asked = run_agrees n (fa_depth k D) D asked.table (fa_depth_is_least k n D asked).within

pub fa_run_agrees : (k n : ℕ) (D : List (List Row)) → IsAsked k n D → Agrees (length D) n D (fa_run k D)
fa_run_agrees k n D asked =
    asks_agree n D (Contains (fa_seen k D)) (fa_rows k D) (fa_asks k D) asked.table (λ o seen. seen_in_table (length D) n D (fa_rows k D) o (fa_rows_agree k n D asked) seen)
    (fa_rows_agree k n D asked) (fa_asks_seen k D)

-- ---- it makes no wild guess
rows_tame : (depth : ℕ) (D : List (List Row)) → IsTame (nra_run_to D depth)
rows_tame depth D = λ earlier later list object grade is.
    let row : Row = record { object = object; grade = grade } in
    let there : Contains (nra_run_to D depth) (Random list object grade) = subst (λ B. Contains B (Random list object grade)) (sym is) (contains_middle earlier (Random list object grade) later) in
    let held : Contains (random_rows list (nra_run_to D depth)) row = contains_filter_map (random_row list) (nra_run_to D depth) (Random list object grade) row there (ap (λ b. cond b (Some row) None) (eq-eqb list list refl)) in
    absurd (contains_nil row (subst (λ rows. Contains rows row) (run_random depth D list) held))

pub fa_run_tame : (k : ℕ) (D : List (List Row)) → IsTame (fa_run k D)
fa_run_tame k D = asks_tame D (fa_rows k D) (fa_asks k D) (rows_tame (fa_depth k D) D) (fa_asks_seen k D)

-- ---- all grades of the seen objects are known in the end
-- what a random access gave is known
asked_known : (A : List Access) (list object grade : ℕ) → Contains A (Random list object grade) → is_none (known_grade A object list) ≡ false
asked_known A list object grade c =
    let row : Row = record { object = object; grade = grade } in
    let held : Contains (random_rows list A) row = contains_filter_map (random_row list) A (Random list object grade) row c (ap (λ b. cond b (Some row) None) (eq-eqb list list refl)) in
    elim (cases_Bool (is_none (known_grade A object list))) [
      | inl t ↦ absurd (grade_among_none _ object (none_if_is_none (known_grade A object list) t) (object_of_row _ row (random_given list A row held)))
      | inr f ↦ f
    ]

missing_member : (D : List (List Row)) (A : List Access) (objects : List ℕ) (object list : ℕ) → Contains objects object → list < length D
    → known_grade A object list ≡ None → Contains (flat_map (missing_grades D A) objects) (Random list object (grade_in (list_at D list) object))
missing_member D A [] object list c l none = absurd (contains_nil object c)
missing_member D A (first ∷ objects) object list c l none =
    elim (contains_cases first objects object c) [
      | inl e ↦ Contains-append_left (missing_grades D A first) (flat_map (missing_grades D A) objects) _ (subst (λ o. Contains (missing_grades D A o) (Random list object (grade_in (list_at D list) object))) (sym e)
          (contains_map (λ other. Random other object (grade_in (list_at D other) object)) (unknown_lists (length D) A object) list
          (contains_filter (λ other. is_none (known_grade A object other)) (list_numbers (length D)) list (number_in (length D) list l) (ap (λ (o : Option ℕ). is_none o) none))))
      | inr r ↦ Contains-append_right (missing_grades D A first) (flat_map (missing_grades D A) objects) _ (missing_member D A objects object list r l none)
    ]

-- so each object that is asked for all its unknown grades has none then
pub asks_know : (D : List (List Row)) (A : List Access) (objects : List ℕ) (object : ℕ) → Contains objects object
    → unknown_lists (length D) (A ++ flat_map (missing_grades D A) objects) object ≡ []
asks_know D A objects object c =
    let asks : List Access = flat_map (missing_grades D A) objects in
    none_unknown (length D) (A ++ asks) object (λ list l.
    elim (option_cases (known_grade A object list)) [
      | inl none ↦ asked_known (A ++ asks) list object (grade_in (list_at D list) object) (Contains-append_right A asks _ (missing_member D A objects object list c l none))
      | inr some ↦ ap (λ (o : Option ℕ). is_none o) (known_grade_kept A asks object list some.0 some.1)
    ])

pub fa_knows : (k : ℕ) (D : List (List Row)) (object : ℕ) → Contains (fa_seen k D) object → unknown_lists (length D) (fa_run k D) object ≡ []
fa_knows k D object seen = asks_know D (fa_rows k D) (fa_seen k D) object seen

-- ---- the seen objects are those of the rows
asks_unseen : (D : List (List Row)) (may : ℕ → Type 0) (B : List Access) → ((a : Access) → Contains B a → Asks D may a) → filter_map sorted_object B ≡ []
asks_unseen D may [] each = refl
asks_unseen D may (a ∷ B) each =
    let is = (each a (contains_here a B)).is in
    subst (λ x. filter_map sorted_object (x ∷ B) ≡ []) (sym is) (asks_unseen D may B (λ b c. each b (contains_there a B b c)))

pub asks_see_none : (D : List (List Row)) (may : ℕ → Type 0) (A B : List Access) → ((a : Access) → Contains B a → Asks D may a)
    → seen_objects (A ++ B) ≡ seen_objects A
asks_see_none D may A B each =
    ap each_once (filter_map-append sorted_object A B ∙ ap (λ (os : List ℕ). filter_map sorted_object A ++ os) (asks_unseen D may B each) ∙ append-nil (filter_map sorted_object A))

pub seen_same : (k : ℕ) (D : List (List Row)) → seen_objects (fa_run k D) ≡ fa_seen k D
seen_same k D = asks_see_none D (Contains (fa_seen k D)) (fa_rows k D) (fa_asks k D) (fa_asks_seen k D)

pub fa_knows_all : (k : ℕ) (D : List (List Row)) → All (λ object. unknown_lists (length D) (fa_run k D) object ≡ []) (seen_objects (fa_run k D))
fa_knows_all k D =
    all_from_members (λ object. unknown_lists (length D) (fa_run k D) object ≡ []) (seen_objects (fa_run k D)) (λ o c. fa_knows k D o (subst (λ os. Contains os o) (seen_same k D) c))

pub seen_of_rows : (k : ℕ) (D : List (List Row)) (object : ℕ) → Contains (fa_seen k D) object → Contains (seen_objects (fa_run k D)) object
seen_of_rows k D object seen = subst (λ os. Contains os object) (sym (seen_same k D)) seen

-- ---- how deep it reads, and how much
pub fa_run_rows : (k n : ℕ) (D : List (List Row)) (list : ℕ) → IsAsked k n D → list < length D → sorted_rows list (fa_run k D) ≡ take (fa_depth k D) (list_at D list)
fa_run_rows k n D list asked l =
    sorted_rows_append list (fa_rows k D) (fa_asks k D)
    ∙ ap (λ rows. sorted_rows list (fa_rows k D) ++ rows) (asks_unsorted D (Contains (fa_seen k D)) list (fa_asks k D) (fa_asks_seen k D))
    ∙ append-nil (sorted_rows list (fa_rows k D))
    ∙ run_rows n (fa_depth k D) D list asked.table (fa_depth_is_least k n D asked).within l

pub fa_run_depth : (k n : ℕ) (D : List (List Row)) → IsAsked k n D → depth (length D) (fa_run k D) ≡ fa_depth k D
fa_run_depth k n D asked =
    let within = (fa_depth_is_least k n D asked).within in
    depth_is (length D) (fa_run k D) (fa_depth k D) asked.lists (λ list l.
    let long : length (list_at D list) ≡ n = list_at_length n D list asked.table l in
    ap length (fa_run_rows k n D list asked l) ∙ length-take-le (fa_depth k D) (list_at D list) (omega arith))

-- a transcript that is such a run on every table that agrees with it is no shallower there than the threshold algorithm
pub always_no_shallower : (V : List ℕ → ℕ) (k m n : ℕ) (A : List Access) → IsMonotone V → IsAlwaysRun (fa_run k) k m n A → IsNoShallower V k m n A
always_no_shallower V k m n A monotone always D agrees =
    let asked : IsAsked k n D = record { table = agrees.table; lists = omega (arith, always.lists, agrees.lists); positive = always.positive; fits = always.fits } in
    let deep : depth m A ≡ fa_depth k D = ap (depth m) (always.always D agrees) ∙ ap (λ c. depth c (fa_run k D)) (sym agrees.lists) ∙ fa_run_depth k n D asked in
    let up : ta_depth V k D ≤ fa_depth k D = ta_is_no_deeper V k n D monotone asked in
    omega arith

block_long : (list depth : ℕ) (D : List (List Row)) → length (sorted_block list depth D) ≡ length D
block_long list depth [] = refl
block_long list depth (rows ∷ D) = let more : length (sorted_block (list + 1) depth D) ≡ length D = block_long (list + 1) depth D in omega arith

rows_long : (depth : ℕ) (D : List (List Row)) → length (nra_run_to D depth) ≡ length D * depth
rows_long zero D = omega arith
rows_long (suc depth) D =
    let before : length (nra_run_to D depth) ≡ length D * depth = rows_long depth D in
    let here : length (sorted_block 0 (suc depth) D) ≡ length D = block_long 0 (suc depth) D in
    omega (arith, length-append (nra_run_to D depth) (sorted_block 0 (suc depth) D))

missing_long : (D : List (List Row)) (A : List Access) (object : ℕ) → length (missing_grades D A object) ≤ length D
missing_long D A object =
    let asks : length (missing_grades D A object) ≡ length (unknown_lists (length D) A object) = length-map (unknown_lists (length D) A object) (λ list. Random list object (grade_in (list_at D list) object)) in
    let some : length (unknown_lists (length D) A object) ≤ length (list_numbers (length D)) = filter_fits (λ list. is_none (known_grade A object list)) (list_numbers (length D)) in
    let all : length (list_numbers (length D)) ≡ length D = length-range_with_len 0 (length D) in
    omega arith

pub asks_long : (D : List (List Row)) (A : List Access) (objects : List ℕ) → length (flat_map (missing_grades D A) objects) ≤ length D * length objects
asks_long D A [] = omega arith
asks_long D A (object ∷ objects) =
    let more : length (flat_map (missing_grades D A) objects) ≤ length D * length objects = asks_long D A objects in
    let here : length (missing_grades D A object) ≤ length D = missing_long D A object in
    omega (arith, length-append (missing_grades D A object) (flat_map (missing_grades D A) objects))

-- a row and a grade of each list for each object at most
pub fa_run_long : (k n : ℕ) (D : List (List Row)) → IsAsked k n D → length (fa_run k D) ≤ 2 * (length D * n)
fa_run_long k n D asked =
    let deep : fa_depth k D ≤ n = (fa_depth_is_least k n D asked).within in
    let few : length (fa_seen k D) ≤ n = seen_count (length D) n D (fa_rows k D) asked.lists (fa_rows_agree k n D asked) in
    let rows : length (fa_rows k D) ≡ length D * fa_depth k D = rows_long (fa_depth k D) D in
    let asks : length (fa_asks k D) ≤ length D * length (fa_seen k D) = asks_long D (fa_rows k D) (fa_seen k D) in
    let most_rows : length D * fa_depth k D ≤ length D * n = mul-le-mul_left (length D) deep in
    let most_asks : length D * length (fa_seen k D) ≤ length D * n = mul-le-mul_left (length D) few in
    omega (arith, length-append (fa_rows k D) (fa_asks k D))
