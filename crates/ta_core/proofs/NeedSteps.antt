-- What a machine on the run needs is the run's next access, and the table has it.
use Rattle.std.proofs.Common.{◌≡◌, ◌≢◌, ℕ, suc, ◌+◌, ◌-◌, ◌<◌, List, [], ◌∷◌, ◌++◌, length, drop, Contains, slice_index, refl, sym, ap, subst, ◌∙◌, append_assoc}
use Rattle.std.specs.List.{flat_map}
use Rattle.std.proofs.Math.Seq.{drop-cons}
use Rattle.ranked_list.specs.declared.row.Row.{Row}
use Rattle.ranked_list.specs.declared.need.Need.TheVariants.{Row as RowAt, Grade}
use Rattle.ranked_list.specs.Table.{IsTable, grade_in}
use Rattle.monotone_fn.specs.Value.{IsMonotone}
use Rattle.topk_theory.specs.declared.access.Access.{Access}
use Rattle.topk_theory.specs.declared.access.Access.TheVariants.{Random}
use Rattle.topk_theory.specs.Transcript.{list_at}
use Rattle.topk_theory.specs.Threshold.{row_at, sorted_block, new_objects, random_block, ta_block, ta_run_to}
use Rattle.topk_theory.specs.Machine.{IsAt, CanServe}
use Rattle.topk_theory.proofs.AgreementLists.{contains_here}
use Rattle.topk_theory.proofs.AgreementRows.{list_at_contains}
use Rattle.topk_theory.proofs.ThresholdRun.{random_block_lower}
use Rattle.machine_base.proofs.Depths.{at_on_path}
use Rattle.machine_base.proofs.Rows.{row_needed}
use Rattle.ta_core.specs.Reading.{RowProgress}
use Rattle.ta_core.specs.OnTable.{OnRow, asks, OnAsks}
use Rattle.ta_core.specs.Halting.{Halt, halts_at, halting_depth, halting_run}
use Rattle.ta_core.proofs.HaltingLaws.{IsHalting, own}
use Rattle.ta_core.proofs.Rows.{reads_rows}
use Rattle.ta_core.proofs.Asks.{run_at, stands_lower, map_at}

pub row_next : (V : List ℕ → ℕ) (halt : Halt) (n : ℕ) (D : List (List Row)) (A : List Access) (r : RowProgress) → IsMonotone V → IsHalting halt n D → OnRow V halt n D A r
    → IsAt (halting_run V halt D) A (RowAt (length r.objects) r.depth) × CanServe D (RowAt (length r.objects) r.depth)
row_next V halt n D A r monotone asked on =
    let d : ℕ = r.depth in
    let later : List Access = flat_map (λ o. random_block 0 d o D) (new_objects D d) in
    row_needed (ta_run_to D) (λ p. ta_block D (suc p)) (halts_at V halt D) n (halting_depth V halt D) D d (length r.objects) A later (λ p. refl) (reads_rows n D asked.table) asked.table (own V halt n D monotone asked) on.at on.unread on.made
    (append_assoc (ta_run_to D (d - 1)) (sorted_block 0 d D) later ∙ sym (run_at D d on.at.positive))

-- the run goes on with the random access of the first object that waits in the next list
pub grade_ahead : (V : List ℕ → ℕ) (halt : Halt) (n : ℕ) (D : List (List Row)) (A : List Access) (r : RowProgress) (object : ℕ) (waiting : List ℕ) → IsTable n D
    → OnAsks V halt n D A r → r.waiting ≡ object ∷ waiting → length r.grades < length D → slice_index r.objects (length r.grades) ≢ object
    → A ++ Random (length r.grades) object (grade_in (list_at D (length r.grades)) object) ∷ (random_block (length r.grades + 1) r.depth object (drop (suc (length r.grades)) D) ++ flat_map (λ o. random_block 0 r.depth o D) waiting) ≡ ta_run_to D r.depth
grade_ahead V halt n D A r object waiting table on is short other =
    let j : ℕ = length r.grades in
    let d : ℕ = r.depth in
    let rows : List Row = list_at D j in
    let new = on.new object (subst (λ ws. Contains ws object) (sym is) (contains_here object waiting)) in
    let elsewhere : (row_at rows d).object ≢ object = λ e. other (ap (λ os. slice_index os j) on.objects_are ∙ map_at (λ (rows : List Row). (row_at rows d).object) D j [] short ∙ e) in
    let lower = stands_lower n D rows d object table (list_at_contains D j short) on.at.positive new.1 new.0 elsewhere in
    let rest : List Access = flat_map (λ o. random_block 0 d o D) waiting in
    ap (λ B. A ++ (B ++ rest)) (sym (random_block_lower j d object rows (drop (suc j) D) lower))
    ∙ ap (λ L. A ++ (random_block j d object L ++ rest)) (sym (drop-cons D j [] short))
    ∙ ap (λ ws. A ++ asks D d ws r.grades) (sym is)
    ∙ on.ahead

pub grade_needed : (V : List ℕ → ℕ) (halt : Halt) (n : ℕ) (D : List (List Row)) (A : List Access) (r : RowProgress) (object : ℕ) (waiting : List ℕ) → IsMonotone V
    → IsHalting halt n D → OnAsks V halt n D A r → r.waiting ≡ object ∷ waiting → length r.grades < length D → slice_index r.objects (length r.grades) ≢ object
    → IsAt (halting_run V halt D) A (Grade (length r.grades) object) × CanServe D (Grade (length r.grades) object)
grade_needed V halt n D A r object waiting monotone asked on is short other =
    let j : ℕ = length r.grades in
    let d : ℕ = r.depth in
    let new = on.new object (subst (λ ws. Contains ws object) (sym is) (contains_here object waiting)) in
    let a : Access = Random j object (grade_in (list_at D j) object) in
    let later : List Access = random_block (j + 1) d object (drop (suc j) D) ++ flat_map (λ o. random_block 0 d o D) waiting in
    let path : A ++ a ∷ later ≡ ta_run_to D d = grade_ahead V halt n D A r object waiting asked.table on is short other in
    (at_on_path (ta_run_to D) (λ p. ta_block D (suc p)) (halts_at V halt D) n (halting_depth V halt D) d A a later (λ p. refl) (own V halt n D monotone asked) on.at path, (short, new.1))
