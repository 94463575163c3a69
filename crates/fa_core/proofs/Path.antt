-- The way of a machine through the run of a table.
use Rattle.std.proofs.Common.{◌≡◌, ℕ, zero, suc, ◌+◌, ◌-◌, ◌<◌, ◌≤◌, true, false, List, [], ◌∷◌, ◌++◌, length, nat_le, sym, ap, subst, ◌∙◌, arith}
use Rattle.ranked_list.specs.declared.row.Row.{Row}
use Rattle.ranked_list.specs.Table.{IsTable}
use Rattle.topk_theory.specs.declared.access.Access.{Access}
use Rattle.topk_theory.specs.declared.access.Access.TheVariants.{Sorted}
use Rattle.topk_theory.specs.Transcript.{Agrees, seen_objects}
use Rattle.topk_theory.specs.Threshold.{IsAsked, sorted_block}
use Rattle.topk_theory.specs.NoRandom.{nra_run_to}
use Rattle.topk_theory.proofs.NoRandomRun.{run_rows}
use Rattle.machine_base.specs.Depths.{IsReached, read_to}
use Rattle.machine_base.specs.Asking.{all_missing}
use Rattle.machine_base.proofs.Depths.{IsOwn, is_own, next_reached}
use Rattle.machine_base.proofs.Rows.{ReadsRows, read_more, read_whole, read_none}
use Rattle.algorithm_theory.specs.Fagin.{fa_stop, fa_depth, fa_rows, fa_run, known_whole}
use Rattle.algorithm_theory.proofs.FaginCommon.{stop_shown}
use Rattle.algorithm_theory.proofs.FaginLeast.{fa_depth_is_least}
use Rattle.fa_core.specs.OnTable.{OnRow}

-- the run goes by rows, and ends at the algorithm's own depth
pub reads_rows : (n : ℕ) (D : List (List Row)) → IsTable n D → ReadsRows (nra_run_to D) n D
reads_rows n D t = λ depth list within l. run_rows n depth D list t within l

pub own : (k n : ℕ) (D : List (List Row)) → IsAsked k n D → IsOwn (fa_stop k D) n (fa_depth k D)
own k n D asked =
    let least = fa_depth_is_least k n D asked in
    record { from_one = least.from_one; within = least.within; ends = least.stops; least = least.least }

pub row_end : (D : List (List Row)) (depth : ℕ) → 1 ≤ depth → nra_run_to D (depth - 1) ++ sorted_block 0 depth D ≡ nra_run_to D depth
row_end D zero positive = absurd (omega arith)
row_end D (suc depth) positive = let e : suc depth - 1 ≡ depth = omega arith in ap (λ d. nra_run_to D d ++ sorted_block 0 (suc depth) D) e

-- with the row that the table gives
row_made : (k n : ℕ) (D : List (List Row)) (A : List Access) (list depth object grade : ℕ) → OnRow k n D A list depth → list < length D
    → Agrees (length D) n D (A ++ Sorted list object grade ∷ []) → A ++ Sorted list object grade ∷ [] ≡ read_to (nra_run_to D) D depth (suc list)
row_made k n D A list depth object grade on l agrees =
    ap (λ B. B ++ Sorted list object grade ∷ []) on.made
    ∙ read_more (nra_run_to D) n D depth list object grade (reads_rows n D agrees.table) on.at.positive on.at.within l (subst (λ B. Agrees (length D) n D (B ++ Sorted list object grade ∷ [])) on.made agrees)

-- the next list
pub list_follows : (k n : ℕ) (D : List (List Row)) (A : List Access) (list depth object grade : ℕ) → OnRow k n D A list depth → list < length D
    → Agrees (length D) n D (A ++ Sorted list object grade ∷ []) → OnRow k n D (A ++ Sorted list object grade ∷ []) (list + 1) depth
list_follows k n D A list depth object grade on l agrees =
    let next : suc list ≡ list + 1 = omega arith in
    record { at = on.at; made = row_made k n D A list depth object grade on l agrees ∙ ap (read_to (nra_run_to D) D depth) next }

-- the last list: the depth is read
pub record OnDepth (k n : ℕ) (D : List (List Row)) (A : List Access) (depth : ℕ) : Type 0 where
  pub at : IsReached (fa_stop k D) n depth
  pub made : A ≡ nra_run_to D depth

pub row_follows : (k n : ℕ) (D : List (List Row)) (A : List Access) (list depth object grade : ℕ) → OnRow k n D A list depth → list < length D
    → length D ≤ suc list → Agrees (length D) n D (A ++ Sorted list object grade ∷ []) → OnDepth k n D (A ++ Sorted list object grade ∷ []) depth
row_follows k n D A list depth object grade on l last agrees = record {
  at = on.at;
  made = row_made k n D A list depth object grade on l agrees ∙ read_whole (nra_run_to D) D depth (suc list) last ∙ row_end D depth on.at.positive;
}

-- whether the algorithm stops there is what the count of objects that have all their grades shows
pub stop_counted : (k n : ℕ) (D : List (List Row)) (A : List Access) (depth common : ℕ) → IsAsked k n D → OnDepth k n D A depth → common ≡ known_whole (length D) A
    → fa_stop k D depth ≡ nat_le k common
stop_counted k n D A depth common asked on counted =
    stop_shown k n depth D asked.table asked.lists on.at.within ∙ ap (nat_le k) (sym (counted ∙ ap (known_whole (length D)) on.made))

-- where it doesn't the next depth follows, and where it does the asks are left
pub depth_follows : (k n : ℕ) (D : List (List Row)) (A : List Access) (depth : ℕ) → IsAsked k n D → OnDepth k n D A depth → fa_stop k D depth ≡ false
    → OnRow k n D A 0 (depth + 1)
depth_follows k n D A depth asked on goes = record {
  at = next_reached (fa_stop k D) n (fa_depth k D) depth (own k n D asked) on.at goes;
  made = on.made ∙ read_none (nra_run_to D) D depth;
}

pub rows_made : (k n : ℕ) (D : List (List Row)) (A : List Access) (depth : ℕ) → IsAsked k n D → OnDepth k n D A depth → fa_stop k D depth ≡ true
    → A ≡ fa_rows k D
rows_made k n D A depth asked on stops = on.made ∙ ap (nra_run_to D) (is_own (fa_stop k D) n (fa_depth k D) depth (own k n D asked) on.at stops)

pub run_left : (k : ℕ) (D : List (List Row)) (A : List Access) → A ≡ fa_rows k D → A ++ all_missing D A (seen_objects A) ≡ fa_run k D
run_left k D A is = ap (λ B. B ++ all_missing D B (seen_objects B)) is
