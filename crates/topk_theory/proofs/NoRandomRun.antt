-- What the algorithm without random access reads: the rows of each list down to a depth.
use Rattle.std.proofs.Common.{◌≡◌, ◌≤◌, ◌<◌, ◌+◌, ◌-◌, ℕ, zero, suc, not, cond, List, [], ◌∷◌, ◌++◌, length, take, refl, sym, ap, subst, ◌∙◌, arith, get_or}
use Rattle.std.proofs.Math.Seq.{take-suc}
use Rattle.std.proofs.lemmas.List.Sums.{sum_by-cons, sum_by-append}
use Rattle.ranked_list.specs.declared.row.Row.{Row}
use Rattle.ranked_list.specs.Table.{IsTable}
use Rattle.topk_theory.specs.declared.access.Access.TheVariants.{Sorted}
use Rattle.topk_theory.specs.Transcript.{sorted_rows, random_rows, list_at, is_sorted, random_count}
use Rattle.topk_theory.specs.Threshold.{row_at, sorted_block}
use Rattle.topk_theory.specs.NoRandom.{nra_run_to}
use Rattle.topk_theory.proofs.Agreement.{sorted_rows_append, random_rows_append}
use Rattle.topk_theory.proofs.AgreementRows.{list_at_length}
use Rattle.topk_theory.proofs.ThresholdRun.{block_of_list}

-- a block of lists from a number on reads one row of each
pub block_at : (k base depth : ℕ) (lists : List (List Row)) → k < length lists
    → sorted_rows (base + k) (sorted_block base depth lists) ≡ row_at (list_at lists k) depth ∷ []
block_at k base depth lists l = block_of_list (base + k) base k depth lists refl l

pub block_random : (list base depth : ℕ) (lists : List (List Row)) → random_rows list (sorted_block base depth lists) ≡ []
block_random list base depth [] = refl
block_random list base depth (rows ∷ lists) = block_random list (base + 1) depth lists

-- down to a depth the run reads the first rows of each list, and nothing by random access
pub run_rows : (n depth : ℕ) (D : List (List Row)) (list : ℕ) → IsTable n D → depth ≤ n → list < length D
    → sorted_rows list (nra_run_to D depth) ≡ take depth (list_at D list)
run_rows n zero D list table le lt = refl
run_rows n (suc depth) D list table le lt =
    let size : length (list_at D list) ≡ n = list_at_length n D list table lt in
    let before = run_rows n depth D list table (omega arith) lt in
    let block : sorted_rows (0 + list) (sorted_block 0 (suc depth) D) ≡ row_at (list_at D list) (suc depth) ∷ [] = block_at list 0 (suc depth) D lt in
    let zero_more : 0 + list ≡ list = omega arith in
    let at : suc depth - 1 ≡ depth = omega arith in
    let here : sorted_rows list (sorted_block 0 (suc depth) D) ≡ get_or (list_at D list) depth (record { object = 0; grade = 0 }) ∷ [] = subst (λ p. sorted_rows list (sorted_block 0 (suc depth) D) ≡ get_or (list_at D list) p (record { object = 0; grade = 0 }) ∷ []) at (subst (λ l. sorted_rows l (sorted_block 0 (suc depth) D) ≡ row_at (list_at D list) (suc depth) ∷ []) zero_more block) in
    sorted_rows_append list (nra_run_to D depth) (sorted_block 0 (suc depth) D) ∙ ap (λ t. t ++ sorted_rows list (sorted_block 0 (suc depth) D)) before ∙ ap (λ t. take depth (list_at D list) ++ t) here ∙ sym (take-suc (list_at D list) depth (record { object = 0; grade = 0 }) (omega arith))

pub run_random : (depth : ℕ) (D : List (List Row)) (list : ℕ) → random_rows list (nra_run_to D depth) ≡ []
run_random zero D list = refl
run_random (suc depth) D list =
    random_rows_append list (nra_run_to D depth) (sorted_block 0 (suc depth) D) ∙ ap (λ t. t ++ random_rows list (sorted_block 0 (suc depth) D)) (run_random depth D list) ∙ block_random list 0 (suc depth) D

-- no access is a random one
pub block_asks : (list depth : ℕ) (D : List (List Row)) → random_count (sorted_block list depth D) ≡ 0
block_asks list depth [] = refl
block_asks list depth (rows ∷ D) =
    let more : random_count (sorted_block (list + 1) depth D) ≡ 0 = block_asks (list + 1) depth D in
    let first = sum_by-cons (λ access. cond {A = ℕ} (not (is_sorted access)) 1 0) (Sorted list (row_at rows depth).object (row_at rows depth).grade) (sorted_block (list + 1) depth D) in
    omega (arith, first, more)

pub run_asks : (depth : ℕ) (D : List (List Row)) → random_count (nra_run_to D depth) ≡ 0
run_asks zero D = refl
run_asks (suc depth) D =
    let before : random_count (nra_run_to D depth) ≡ 0 = run_asks depth D in
    let here : random_count (sorted_block 0 (suc depth) D) ≡ 0 = block_asks 0 (suc depth) D in
    let both = sum_by-append (λ access. cond {A = ℕ} (not (is_sorted access)) 1 0) (nra_run_to D depth) (sorted_block 0 (suc depth) D) in
    omega (arith, both, before, here)
