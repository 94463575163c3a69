-- What the algorithm without random access does on a whole table.
use Rattle.std.proofs.Common.{◌≡◌, ◌≤◌, ◌<◌, ◌+◌, ◌-◌, ℕ, zero, suc, true, List, [], ◌∷◌, length, take, refl, sym, ap, subst, ◌∙◌, arith, get_or}
use Rattle.std.specs.List.{All, Contains}
use Rattle.std.proofs.Math.Seq.{take-length}
use Rattle.std.proofs.lemmas.List.{length-map, length-take-le, get_or-map}
use Rattle.std.proofs.lemmas.List.Elements.{All-append, All-nil, All-cons}
use Rattle.ranked_list.specs.declared.row.Row.{Row}
use Rattle.ranked_list.specs.declared.item.Item.{Item}
use Rattle.ranked_list.specs.Table.{IsTable}
use Rattle.topk_theory.specs.Order.{AreDistinct, IsBefore}
use Rattle.topk_theory.specs.declared.access.Access.{Access}
use Rattle.monotone_fn.specs.Value.{IsMonotone}
use Rattle.topk_theory.specs.Aggregate.{IsTop, objects_of}
use Rattle.topk_theory.specs.Transcript.{Agrees, Begins, list_of, list_at, seen_objects}
use Rattle.topk_theory.specs.Bounds.{bounded}
use Rattle.topk_theory.specs.Threshold.{IsAsked, item_objects, sorted_block}
use Rattle.topk_theory.specs.NoRandom.{IsLeastQuiet, seen_items, first_seen, is_quiet, nra_run_to, nra_run, nra_depth, nra_answer}
use Rattle.topk_theory.proofs.Agreement.{seen_in_table, seen_distinct, objects_of_count}
use Rattle.topk_theory.proofs.AgreementRows.{list_at_length}
use Rattle.topk_theory.proofs.BoundsLaws.{low_holds, high_holds}
use Rattle.topk_theory.proofs.ThresholdDepth.{least_from-start, least_from-end, least_from-passes, least_from-before}
use Rattle.topk_theory.proofs.NoRandomRun.{run_rows, run_random}
use Rattle.topk_theory.proofs.NoRandomQuiet.{GivesAll, full_quiet}
use Rattle.topk_theory.proofs.NoRandomTop.{object_of_seen, quiet_top}
use Rattle.topk_theory.proofs.FirstK.{first_k-is}
use Rattle.topk_theory.proofs.InOrder.{length-in_order}
use Rattle.topk_theory.proofs.OrderLaws.{IsBefore-irreflexive}

-- the items of distinct objects are of distinct objects
pub items_distinct : (V : List ℕ → ℕ) (m : ℕ) (A : List Access) → AreDistinct (seen_items V m A)
items_distinct V m A = λ i j d lt in_range same.
    let size : length (seen_items V m A) ≡ length (seen_objects A) = length-map (seen_objects A) (bounded V m A) in
    let at_i : get_or (seen_items V m A) i d ≡ bounded V m A (get_or (seen_objects A) i 0) = get_or-map (bounded V m A) (seen_objects A) i 0 d (omega arith) in
    let at_j : get_or (seen_items V m A) j d ≡ bounded V m A (get_or (seen_objects A) j 0) = get_or-map (bounded V m A) (seen_objects A) j 0 d (omega arith) in
    seen_distinct A i j 0 lt (omega arith) (sym (ap (λ (item : Item). item.object) at_i) ∙ same ∙ ap (λ (item : Item). item.object) at_j)

-- so are those of the first k
pub first_distinct : (V : List ℕ → ℕ) (k m : ℕ) (A : List Access) → AreDistinct (first_seen V k m A)
first_distinct V k m A = λ i j d lt in_range same.
    let first = first_k-is k (seen_items V m A) (items_distinct V m A) in
    let one : Item = get_or (first_seen V k m A) i d in
    let two : Item = get_or (first_seen V k m A) j d in
    let one_is : one ≡ bounded V m A one.object = (object_of_seen V m A one (first.held i d (omega arith))).1 in
    let two_is : two ≡ bounded V m A two.object = (object_of_seen V m A two (first.held j d in_range)).1 in
    let equal : one ≡ two = one_is ∙ ap (bounded V m A) same ∙ sym two_is in
    IsBefore-irreflexive one (subst (λ other. IsBefore one other) (sym equal) (first.ordered i j d lt in_range))

pub block_in_range : (base depth m : ℕ) (D : List (List Row)) → base + length D ≤ m → All (λ (access : Access). list_of access < m) (sorted_block base depth D)
block_in_range base depth m [] le = All-nil (λ (access : Access). list_of access < m)
block_in_range base depth m (rows ∷ D) le =
    All-cons (λ (access : Access). list_of access < m) _ (sorted_block (base + 1) depth D) (omega arith) (block_in_range (base + 1) depth m D (omega arith))

run_in_range : (depth : ℕ) (D : List (List Row)) → All (λ (access : Access). list_of access < length D) (nra_run_to D depth)
run_in_range zero D = All-nil (λ (access : Access). list_of access < length D)
run_in_range (suc depth) D = All-append (λ (access : Access). list_of access < length D) (nra_run_to D depth) (sorted_block 0 (suc depth) D) (run_in_range depth D) (block_in_range 0 (suc depth) (length D) D (omega arith))

pub begins_by_take : (depth : ℕ) (rows front : List Row) → depth ≤ length rows → front ≡ take depth rows → Begins front rows
begins_by_take depth rows front le e =
    let size : length front ≡ depth = ap length e ∙ length-take-le depth rows le in
    ap (λ k. take k rows) size ∙ sym e

-- the depth of all rows gives every list whole
full_rows : (n : ℕ) (D : List (List Row)) → IsTable n D → GivesAll D (nra_run_to D n)
full_rows n D table list lt = run_rows n n D list table (omega arith) lt ∙ ap (λ k. take k (list_at D list)) (sym (list_at_length n D list table lt)) ∙ take-length (list_at D list)

-- what it reads is what the table gives
pub run_agrees : (n depth : ℕ) (D : List (List Row)) → IsTable n D → depth ≤ n → Agrees (length D) n D (nra_run_to D depth)
run_agrees n depth D table le = record {
  lists = refl;
  table = table;
  drawn = record {
    in_range = run_in_range depth D;
    sorted = λ list lt. begins_by_take depth (list_at D list) _ (let e = list_at_length n D list table lt in omega arith) (run_rows n depth D list table le lt);
    random = λ list lt. subst (λ rows. All (Contains (list_at D list)) rows) (sym (run_random depth D list)) (All-nil (Contains (list_at D list)));
  };
}

-- the depth is the least at which it is quiet
pub nra_depth_is_least : (V : List ℕ → ℕ) (k n : ℕ) (D : List (List Row)) → IsMonotone V → IsAsked k n D → IsLeastQuiet V k n D (nra_depth V k D)
nra_depth_is_least V k n D monotone asked =
    let passes = λ (depth : ℕ). is_quiet V k (length D) D (nra_run_to D depth) in
    let more = length (objects_of D) - 1 in
    let count : length (objects_of D) ≡ n = objects_of_count n D asked.table asked.lists in
    let k_one = asked.positive in
    let k_fits = asked.fits in
    let last : 1 + more ≡ n = omega arith in
    let A = nra_run_to D n in
    let quiet : passes (1 + more) ≡ true = subst (λ d. passes d ≡ true) (sym last) (full_quiet V k n D (nra_run_to D n) monotone asked.table (full_rows n D asked.table) asked.lists k_one k_fits (length-in_order (seen_items V (length D) A)) (first_k-is k (seen_items V (length D) A) (items_distinct V (length D) A))) in
    let to = least_from-end passes more 1 in
    record {
      from_one = least_from-start passes more 1;
      within = omega (arith, to);
      quiet = least_from-passes passes more 1 quiet;
      least = λ other from before. least_from-before passes more 1 other from before;
    }

-- its answer is a top k
pub nra_answer_top : (V : List ℕ → ℕ) (k n : ℕ) (D : List (List Row)) → IsMonotone V → IsAsked k n D → IsTop V k D (item_objects (nra_answer V k D))
nra_answer_top V k n D monotone asked =
    let least = nra_depth_is_least V k n D monotone asked in
    let A = nra_run V k D in
    let agrees = run_agrees n (nra_depth V k D) D asked.table least.within in
    quiet_top V k (length D) D A asked.positive
    (record { below = λ object here. low_holds V (length D) n D A object monotone agrees; above = λ object here. high_holds V (length D) n D A object monotone agrees })
    (λ object seen. seen_in_table (length D) n D A object agrees seen)
    (first_distinct V k (length D) A)
    (first_k-is k (seen_items V (length D) A) (items_distinct V (length D) A))
    least.quiet
