-- One row told: the machine stays on the run of a table that agrees.
use Rattle.std.proofs.Common.{◌≡◌, ℕ, zero, suc, ◌+◌, ◌-◌, ◌<◌, ◌≤◌, true, false, List, [], ◌∷◌, ◌++◌, length, MatchBool, refl, sym, ap, subst, ◌∙◌, arith, append-nil}
use Rattle.ranked_list.specs.declared.row.Row.{Row}
use Rattle.ranked_list.specs.declared.need.Need.TheVariants.{Row as RowAt}
use Rattle.ranked_list.specs.Table.{IsTable}
use Rattle.monotone_fn.specs.Value.{IsMonotone}
use Rattle.topk_theory.specs.declared.access.Access.{Access}
use Rattle.topk_theory.specs.declared.access.Access.TheVariants.{Sorted}
use Rattle.topk_theory.specs.Transcript.{Agrees}
use Rattle.topk_theory.specs.Threshold.{IsAsked, sorted_block}
use Rattle.topk_theory.specs.NoRandom.{is_quiet, nra_run_to, nra_run, nra_depth}
use Rattle.topk_theory.specs.Machine.{IsAt, CanServe}
use Rattle.topk_theory.proofs.NoRandomLaws.{nra_depth_is_least}
use Rattle.topk_theory.proofs.NoRandomRun.{run_rows}
use Rattle.machine_base.specs.Depths.{IsReached, read_to}
use Rattle.machine_base.proofs.Depths.{IsOwn, is_own, next_reached}
use Rattle.machine_base.proofs.Rows.{ReadsRows, read_more, read_whole, read_none, row_needed}
use Rattle.nra_core.specs.declared.place.Place.{Place}
use Rattle.nra_core.specs.OnTable.{quiet_at, OnRow, OnTable}

-- where a machine is on a table
pub on_row : (V : List ℕ → ℕ) (k n : ℕ) (D : List (List Row)) (A : List Access) (place : Place) → place.done ≡ false → OnRow V k n D A place
    → OnTable V k n D A place
on_row V k n D A place open' on = subst (λ b. MatchBool b (A ≡ nra_run V k D) (OnRow V k n D A place)) (sym open') on

pub row_of : (V : List ℕ → ℕ) (k n : ℕ) (D : List (List Row)) (A : List Access) (place : Place) → place.done ≡ false → OnTable V k n D A place
    → OnRow V k n D A place
row_of V k n D A place open' on = subst (λ b. MatchBool b (A ≡ nra_run V k D) (OnRow V k n D A place)) open' on

pub run_of : (V : List ℕ → ℕ) (k n : ℕ) (D : List (List Row)) (A : List Access) (place : Place) → place.done ≡ true → OnTable V k n D A place
    → A ≡ nra_run V k D
run_of V k n D A place done on = subst (λ b. MatchBool b (A ≡ nra_run V k D) (OnRow V k n D A place)) done on

-- the run goes by whole rows, and ends at the algorithm's own depth
pub reads_rows : (n : ℕ) (D : List (List Row)) → IsTable n D → ReadsRows (nra_run_to D) n D
reads_rows n D t = λ depth list within l. run_rows n depth D list t within l

ends_with_row : (D : List (List Row)) (depth : ℕ) → 1 ≤ depth → nra_run_to D (depth - 1) ++ sorted_block 0 depth D ≡ nra_run_to D depth
ends_with_row D zero positive = absurd (omega arith)
ends_with_row D (suc depth) positive = let e : suc depth - 1 ≡ depth = omega arith in ap (λ d. nra_run_to D d ++ sorted_block 0 (suc depth) D) e

pub own : (V : List ℕ → ℕ) (k n : ℕ) (D : List (List Row)) → IsMonotone V → IsAsked k n D → IsOwn (quiet_at V k D) n (nra_depth V k D)
own V k n D monotone asked =
    let least = nra_depth_is_least V k n D monotone asked in
    record { from_one = least.from_one; within = least.within; ends = least.quiet; least = least.least }

-- with the row that the table gives
row_made : (V : List ℕ → ℕ) (k n : ℕ) (D : List (List Row)) (A : List Access) (place : Place) (object grade : ℕ) → OnRow V k n D A place
    → place.list < length D → Agrees (length D) n D (A ++ Sorted place.list object grade ∷ [])
    → A ++ Sorted place.list object grade ∷ [] ≡ read_to (nra_run_to D) D place.depth (suc place.list)
row_made V k n D A place object grade on l agrees =
    ap (λ B. B ++ Sorted place.list object grade ∷ []) on.made
    ∙ read_more (nra_run_to D) n D place.depth place.list object grade (reads_rows n D agrees.table) on.at.positive on.at.within l (subst (λ B. Agrees (length D) n D (B ++ Sorted place.list object grade ∷ [])) on.made agrees)

-- the next list
pub list_follows : (V : List ℕ → ℕ) (k n : ℕ) (D : List (List Row)) (A : List Access) (place : Place) (object grade : ℕ) → OnRow V k n D A place
    → place.list < length D → Agrees (length D) n D (A ++ Sorted place.list object grade ∷ [])
    → OnRow V k n D (A ++ Sorted place.list object grade ∷ []) (record place { list = place.list + 1 })
list_follows V k n D A place object grade on l agrees =
    let next : suc place.list ≡ place.list + 1 = omega arith in
    record { at = on.at; made = row_made V k n D A place object grade on l agrees ∙ ap (read_to (nra_run_to D) D place.depth) next }

-- the last list: the depth is read
pub depth_made : (V : List ℕ → ℕ) (k n : ℕ) (D : List (List Row)) (A : List Access) (place : Place) (object grade : ℕ) → OnRow V k n D A place
    → place.list < length D → length D ≤ suc place.list → Agrees (length D) n D (A ++ Sorted place.list object grade ∷ [])
    → A ++ Sorted place.list object grade ∷ [] ≡ nra_run_to D place.depth
depth_made V k n D A place object grade on l last agrees =
    row_made V k n D A place object grade on l agrees ∙ read_whole (nra_run_to D) D place.depth (suc place.list) last ∙ ends_with_row D place.depth on.at.positive

-- it is the algorithm's own where all is quiet
pub run_made : (V : List ℕ → ℕ) (k n : ℕ) (D : List (List Row)) (A : List Access) (depth : ℕ) → IsMonotone V → IsAsked k n D
    → IsReached (quiet_at V k D) n depth → A ≡ nra_run_to D depth → is_quiet V k (length D) D A ≡ true → A ≡ nra_run V k D
run_made V k n D A depth monotone asked at made quiet =
    made ∙ ap (nra_run_to D) (is_own (quiet_at V k D) n (nra_depth V k D) depth (own V k n D monotone asked) at (subst (λ B. is_quiet V k (length D) D B ≡ true) made quiet))

-- and else the next depth follows
pub depth_follows : (V : List ℕ → ℕ) (k n : ℕ) (D : List (List Row)) (A : List Access) (depth : ℕ) → IsMonotone V → IsAsked k n D
    → IsReached (quiet_at V k D) n depth → A ≡ nra_run_to D depth → is_quiet V k (length D) D A ≡ false
    → OnRow V k n D A (record { list = 0; depth = depth + 1; done = false })
depth_follows V k n D A depth monotone asked at made unquiet = record {
  at = next_reached (quiet_at V k D) n (nra_depth V k D) depth (own V k n D monotone asked) at (subst (λ B. is_quiet V k (length D) D B ≡ false) made unquiet);
  made = made ∙ read_none (nra_run_to D) D depth;
}

-- what is needed
pub row_next : (V : List ℕ → ℕ) (k n : ℕ) (D : List (List Row)) (A : List Access) (place : Place) → IsMonotone V → IsAsked k n D → place.list < length D
    → OnRow V k n D A place → IsAt (nra_run V k D) A (RowAt place.list place.depth) × CanServe D (RowAt place.list place.depth)
row_next V k n D A place monotone asked l on =
    row_needed (nra_run_to D) (λ d. sorted_block 0 (suc d) D) (quiet_at V k D) n (nra_depth V k D) D place.depth place.list A [] (λ d. refl) (reads_rows n D asked.table) asked.table (own V k n D monotone asked) on.at l on.made
    (append-nil (nra_run_to D (place.depth - 1) ++ sorted_block 0 place.depth D) ∙ ends_with_row D place.depth on.at.positive)
