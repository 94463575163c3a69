-- How long a run is at most.
use Rattle.std.proofs.Common.{◌≡◌, ℕ, zero, suc, ◌+◌, ◌-◌, ◌*◌, ◌^◌, ◌<◌, ◌≤◌, true, false, cond, List, [], ◌∷◌, ◌++◌, length, nat_lt, ◌%◌, ◌==◌, Option, Some, None, is_none, refl, arith, length-append}
use Rattle.std.specs.List.{list_any, flat_map}
use Rattle.std.proofs.lemmas.List.{length-map}
use Rattle.std.proofs.lemmas.List.FromFn.{length-range_with_len}
use Rattle.std.proofs.Math.Nat.{mul-le-mul_left}
use Rattle.ranked_list.specs.declared.row.Row.{Row}
use Rattle.ranked_list.specs.declared.item.Item.{Item}
use Rattle.ranked_list.specs.Table.{place_in, grade_in}
use Rattle.topk_theory.specs.declared.access.Access.{Access}
use Rattle.topk_theory.specs.declared.access.Access.TheVariants.{Random}
use Rattle.monotone_fn.specs.Value.{IsMonotone}
use Rattle.topk_theory.specs.Transcript.{each_once_after, list_at, list_numbers}
use Rattle.topk_theory.specs.Bounds.{known_grade}
use Rattle.topk_theory.specs.Combined.{unknown_lists, missing_grades, choice, grades_of_choice, phase_after, finish, ca_run_to, ca_depth, ca_blocks, ca_run}
use Rattle.topk_theory.specs.Threshold.{IsAsked, new_objects, sorted_block, random_block, ta_block, ta_run_to, ta_run, ta_depth}
use Rattle.topk_theory.specs.NoRandom.{nra_run_to, nra_run, nra_depth, seen_items, first_seen, is_quiet}
use Rattle.topk_theory.proofs.ThresholdLaws.{least_depth}
use Rattle.topk_theory.proofs.NoRandomLaws.{nra_depth_is_least, items_distinct}
use Rattle.topk_theory.proofs.FirstK.{first_k-is}
use Rattle.topk_theory.specs.Aggregate.{objects_of}
use Rattle.topk_theory.proofs.Agreement.{objects_of_count}
use Rattle.topk_theory.proofs.ThresholdDepth.{least_from-end}
use Rattle.topk_theory.proofs.ThresholdLists.{filter_fits}
use Rattle.algorithm_theory.proofs.Costs.{new_few}
use Rattle.algorithm_theory.specs.Fagin.{fa_run}
use Rattle.algorithm_theory.proofs.FaginRuns.{fa_run_long}

sorted_long : (list depth : ℕ) (D : List (List Row)) → length (sorted_block list depth D) ≡ length D
sorted_long list depth [] = refl
sorted_long list depth (rows ∷ D) = let more : length (sorted_block (list + 1) depth D) ≡ length D = sorted_long (list + 1) depth D in omega arith

random_long : (list depth object : ℕ) (D : List (List Row)) → length (random_block list depth object D) ≤ length D
random_long list depth object [] = omega arith
random_long list depth object (rows ∷ D) =
    let more : length (random_block (list + 1) depth object D) ≤ length D = random_long (list + 1) depth object D in
    let more_than : List Access → Type 0 = λ accesses. length accesses ≤ length (rows ∷ D) in
    elim (nat_lt (place_in rows object) depth) as (λ b. more_than (cond b (random_block (list + 1) depth object D) (Random list object (grade_in rows object) ∷ random_block (list + 1) depth object D)))
    [ true ↦ omega arith | false ↦ omega arith ]

each_long : (before xs : List ℕ) → length (each_once_after before xs) ≤ length xs
each_long before [] = omega arith
each_long before (x ∷ xs) =
    let same : length (each_once_after before xs) ≤ length xs = each_long before xs in
    let more : length (each_once_after (before ++ x ∷ []) xs) ≤ length xs = each_long (before ++ x ∷ []) xs in
    let fits : List ℕ → Type 0 = λ ys. length ys ≤ length (x ∷ xs) in
    elim (list_any (λ y. y == x) before) as (λ b. fits (cond b (each_once_after before xs) (x ∷ each_once_after (before ++ x ∷ []) xs))) [ true ↦ omega arith | false ↦ omega arith ]

flat_long : {X : Type 0} (f : X → List Access) (most : ℕ) → ((x : X) → length (f x) ≤ most) → (xs : List X) → length (flat_map f xs) ≤ length xs * most
flat_long f most each [] = omega arith
flat_long f most each (x ∷ xs) =
    let more : length (flat_map f xs) ≤ length xs * most = flat_long f most each xs in
    let here : length (f x) ≤ most = each x in
    omega (arith, length-append (f x) (flat_map f xs))

block_long : (D : List (List Row)) (depth : ℕ) → length (ta_block D depth) ≤ length D + length D * length D
block_long D depth =
    let rows : length (sorted_block 0 depth D) ≡ length D = sorted_long 0 depth D in
    let asks : length (flat_map (λ object. random_block 0 depth object D) (new_objects D depth)) ≤ length (new_objects D depth) * length D =
    flat_long (λ object. random_block 0 depth object D) (length D) (λ object. random_long 0 depth object D) (new_objects D depth) in
    let few : length D * length (new_objects D depth) ≤ length D * length D = mul-le-mul_left (length D) (new_few D depth) in
    omega (arith, length-append (sorted_block 0 depth D) (flat_map (λ object. random_block 0 depth object D) (new_objects D depth)))

run_to_long : (D : List (List Row)) (depth : ℕ) → length (ta_run_to D depth) ≤ depth * (length D + length D * length D)
run_to_long D zero = omega arith
run_to_long D (suc depth) =
    let before : length (ta_run_to D depth) ≤ depth * (length D + length D * length D) = run_to_long D depth in
    let here : length (ta_block D (suc depth)) ≤ length D + length D * length D = block_long D (suc depth) in
    omega (arith, length-append (ta_run_to D depth) (ta_block D (suc depth)))

-- down to a depth that the lists have
pub deep_short : (deep n : ℕ) (D : List (List Row)) → deep ≤ n → length D ≤ 8 → n ≤ 200000 → length (ta_run_to D deep) < 2 ^ 24
deep_short deep n D within few counted =
    let m = length D in
    let long : length (ta_run_to D deep) ≤ deep * (m + m * m) = run_to_long D deep in
    let square : m * m ≤ m * 8 = mul-le-mul_left m few in
    let block : m + m * m ≤ 72 = omega arith in
    let most : deep * (m + m * m) ≤ deep * 72 = mul-le-mul_left deep block in
    omega arith

pub ta_short : (V : List ℕ → ℕ) (k n : ℕ) (D : List (List Row)) → IsMonotone V → IsAsked k n D → length D ≤ 8 → n ≤ 200000 → length (ta_run V k D) < 2 ^ 24
ta_short V k n D monotone asked few counted = deep_short (ta_depth V k D) n D (least_depth V k n D monotone asked).within few counted

rows_long : (D : List (List Row)) (depth : ℕ) → length (nra_run_to D depth) ≤ depth * length D
rows_long D zero = omega arith
rows_long D (suc depth) =
    let before : length (nra_run_to D depth) ≤ depth * length D = rows_long D depth in
    let here : length (sorted_block 0 (suc depth) D) ≡ length D = sorted_long 0 (suc depth) D in
    omega (arith, length-append (nra_run_to D depth) (sorted_block 0 (suc depth) D))

pub nra_short : (V : List ℕ → ℕ) (k n : ℕ) (D : List (List Row)) → IsMonotone V → IsAsked k n D → length D ≤ 8 → n ≤ 200000 → length (nra_run V k D) < 2 ^ 24
nra_short V k n D monotone asked few counted =
    let deep : nra_depth V k D ≤ n = (nra_depth_is_least V k n D monotone asked).within in
    let long : length (nra_run V k D) ≤ nra_depth V k D * length D = rows_long D (nra_depth V k D) in
    let most : nra_depth V k D * length D ≤ nra_depth V k D * 8 = mul-le-mul_left (nra_depth V k D) few in
    omega arith

missing_long : (D : List (List Row)) (A : List Access) (object : ℕ) → length (missing_grades D A object) ≤ length D
missing_long D A object =
    let asks : length (missing_grades D A object) ≡ length (unknown_lists (length D) A object) = length-map (unknown_lists (length D) A object) (λ list. Random list object (grade_in (list_at D list) object)) in
    let some : length (unknown_lists (length D) A object) ≤ length (list_numbers (length D)) = filter_fits (λ list. is_none (known_grade A object list)) (list_numbers (length D)) in
    let all : length (list_numbers (length D)) ≡ length D = length-range_with_len 0 (length D) in
    omega arith

choice_long : (D : List (List Row)) (A : List Access) (chosen : Option ℕ) → length (grades_of_choice D A chosen) ≤ length D
choice_long D A None = omega arith
choice_long D A (Some object) = missing_long D A object

phase_long : (V : List ℕ → ℕ) (k phase depth : ℕ) (D : List (List Row)) (A : List Access) → length (phase_after V k phase depth D A) ≤ length D
phase_long V k phase depth D A =
    elim ((depth % phase) == 0) as (λ b. length (cond {A = List Access} b (grades_of_choice D A (choice V k (length D) A)) []) ≤ length D)
    [ true ↦ choice_long D A (choice V k (length D) A) | false ↦ omega arith ]

blocks_long : (V : List ℕ → ℕ) (k phase : ℕ) (D : List (List Row)) (depth : ℕ) → length (ca_run_to V k phase D depth) ≤ depth * (length D + length D)
blocks_long V k phase D zero = omega arith
blocks_long V k phase D (suc depth) =
    let A : List Access = ca_run_to V k phase D depth in
    let row : List Access = A ++ sorted_block 0 (suc depth) D in
    let before : length A ≤ depth * (length D + length D) = blocks_long V k phase D depth in
    let here : length (sorted_block 0 (suc depth) D) ≡ length D = sorted_long 0 (suc depth) D in
    let asks : length (phase_after V k phase (suc depth) D row) ≤ length D = phase_long V k phase (suc depth) D row in
    omega (arith, length-append A (sorted_block 0 (suc depth) D), length-append row (phase_after V k phase (suc depth) D row))

finish_long : (V : List ℕ → ℕ) (k : ℕ) (D : List (List Row)) (A : List Access) → length (finish V k D A) ≤ k * length D
finish_long V k D A =
    let first : List Item = first_seen V k (length D) A in
    let few = (first_k-is k (seen_items V (length D) A) (items_distinct V (length D) A)).size in
    let short : length first ≤ k = omega (arith, few) in
    let long : length (finish V k D A) ≤ length first * length D = flat_long (λ (item : Item). missing_grades D A item.object) (length D) (λ item. missing_long D A item.object) first in
    let most : length D * length first ≤ length D * k = mul-le-mul_left (length D) short in
    omega arith

pub ca_short : (V : List ℕ → ℕ) (k phase n : ℕ) (D : List (List Row)) → IsMonotone V → IsAsked k n D → length D ≤ 8 → n ≤ 200000
    → length (ca_run V k phase D) < 2 ^ 24
ca_short V k phase n D monotone asked few counted =
    let count : length (objects_of D) ≡ n = objects_of_count n D asked.table asked.lists in
    let some = asked.positive in
    let all = asked.fits in
    let to : ca_depth V k phase D ≤ 1 + (length (objects_of D) - 1) = least_from-end (λ depth. is_quiet V k (length D) D (ca_run_to V k phase D depth)) (length (objects_of D) - 1) 1 in
    let deep : ca_depth V k phase D ≤ n = omega arith in
    let blocks : length (ca_blocks V k phase D) ≤ ca_depth V k phase D * (length D + length D) = blocks_long V k phase D (ca_depth V k phase D) in
    let block : length D + length D ≤ 16 = omega arith in
    let most : ca_depth V k phase D * (length D + length D) ≤ ca_depth V k phase D * 16 = mul-le-mul_left (ca_depth V k phase D) block in
    let last : length (finish V k D (ca_blocks V k phase D)) ≤ k * length D = finish_long V k D (ca_blocks V k phase D) in
    let ends : k * length D ≤ k * 8 = mul-le-mul_left k few in
    let fits : k ≤ n = asked.fits in
    omega (arith, length-append (ca_blocks V k phase D) (finish V k D (ca_blocks V k phase D)))

pub fa_short : (k n : ℕ) (D : List (List Row)) → IsAsked k n D → length D ≤ 8 → n ≤ 200000 → length (fa_run k D) < 2 ^ 24
fa_short k n D asked few counted =
    let long : length (fa_run k D) ≤ 2 * (length D * n) = fa_run_long k n D asked in
    let most : n * length D ≤ n * 8 = mul-le-mul_left n few in
    omega arith
