-- What the combined algorithm does on a whole table.
use Rattle.std.proofs.Common.{◌≡◌, ◌≢◌, ◌≤◌, ◌<◌, ◌+◌, ◌-◌, inl, inr, ℕ, Bool, true, false, List, length, map, take, ◌++◌, AllPairs, Contains, refl, sym, ap, subst, ◌∙◌, arith, get_or}
use Rattle.std.proofs.Math.Seq.{take-length}
use Rattle.std.proofs.lemmas.Bool.{cases_lt}
use Rattle.std.proofs.lemmas.List.{length-map}
use Rattle.std.proofs.lemmas.List.Elements.{All-contains}
use Rattle.ranked_list.specs.declared.row.Row.{Row}
use Rattle.ranked_list.specs.declared.item.Item.{Item}
use Rattle.ranked_list.specs.Table.{IsTable}
use Rattle.topk_theory.specs.Order.{IsBefore, IsFirstK, first_k, in_order}
use Rattle.topk_theory.specs.declared.access.Access.{Access}
use Rattle.monotone_fn.specs.Value.{IsMonotone}
use Rattle.topk_theory.specs.Aggregate.{IsTop, objects_of}
use Rattle.topk_theory.specs.Transcript.{Agrees, IsTame, list_at, seen_objects}
use Rattle.topk_theory.specs.Threshold.{IsAsked, scored, item_objects}
use Rattle.topk_theory.specs.NoRandom.{seen_items, first_seen, is_quiet}
use Rattle.topk_theory.specs.Combined.{IsCombinedRun, finish, ca_run_to, ca_depth, ca_blocks, ca_run, ca_answer}
use Rattle.topk_theory.proofs.AgreementLists.{contains_at, contains_map, contains_map_from, all_from_members}
use Rattle.topk_theory.proofs.AgreementRows.{list_at_length}
use Rattle.topk_theory.proofs.Agreement.{objects_of_count, seen_in_table}
use Rattle.topk_theory.proofs.BoundsLaws.{low_holds, high_holds}
use Rattle.topk_theory.proofs.InOrder.{has_from_Contains, Contains-from_has, has-in_order, length-in_order}
use Rattle.topk_theory.proofs.FirstK.{first_k-is}
use Rattle.topk_theory.proofs.OrderLaws.{IsBefore-irreflexive}
use Rattle.topk_theory.proofs.ThresholdDepth.{least_from-start, least_from-end, least_from-passes, least_from-before}
use Rattle.topk_theory.proofs.ThresholdTop.{scored_distinct, scored_member, objects_from_distinct}
use Rattle.topk_theory.proofs.NoRandomQuiet.{GivesAll, full_quiet}
use Rattle.topk_theory.proofs.NoRandomTop.{quiet_top}
use Rattle.topk_theory.proofs.NoRandomLaws.{items_distinct, first_distinct}
use Rattle.topk_theory.proofs.CombinedRun.{blocks_are, blocks_only, ca_rows, ca_agrees, ca_tame, finish_asks, asks_agree, asks_tame}

-- at the depth of all rows it is quiet
full_rows : (V : List ℕ → ℕ) (k phase n : ℕ) (D : List (List Row)) → IsTable n D → GivesAll D (ca_run_to V k phase D n)
full_rows V k phase n D table list lt = ca_rows V k phase n n D list table (omega arith) lt ∙ ap (λ d. take d (list_at D list)) (sym (list_at_length n D list table lt)) ∙ take-length (list_at D list)

-- the depth is the least from 1 on at whose end it is quiet, and at most n
record IsLeast (V : List ℕ → ℕ) (k phase n : ℕ) (D : List (List Row)) (depth : ℕ) : Type 0 where
  from_one : 1 ≤ depth
  within : depth ≤ n
  quiet : is_quiet V k (length D) D (ca_run_to V k phase D depth) ≡ true
  least : (other : ℕ) → 1 ≤ other → other < depth → is_quiet V k (length D) D (ca_run_to V k phase D other) ≡ false

depth_is_least : (V : List ℕ → ℕ) (k phase n : ℕ) (D : List (List Row)) → IsMonotone V → IsAsked k n D → IsLeast V k phase n D (ca_depth V k phase D)
depth_is_least V k phase n D monotone asked =
    let passes = λ (depth : ℕ). is_quiet V k (length D) D (ca_run_to V k phase D depth) in
    let more = length (objects_of D) - 1 in
    let count : length (objects_of D) ≡ n = objects_of_count n D asked.table asked.lists in
    let k_one = asked.positive in
    let k_fits = asked.fits in
    let last : 1 + more ≡ n = omega arith in
    let A = ca_run_to V k phase D n in
    let quiet : passes (1 + more) ≡ true = subst (λ d. passes d ≡ true) (sym last) (full_quiet V k n D A monotone asked.table (full_rows V k phase n D asked.table) asked.lists k_one k_fits (length-in_order (seen_items V (length D) A)) (first_k-is k (seen_items V (length D) A) (items_distinct V (length D) A))) in
    let to = least_from-end passes more 1 in
    record {
      from_one = least_from-start passes more 1;
      within = omega (arith, to);
      quiet = least_from-passes passes more 1 quiet;
      least = λ other from before. least_from-before passes more 1 other from before;
    }

-- what it reads, as it is computed, is a run
pub run_is : (V : List ℕ → ℕ) (k phase n : ℕ) (D : List (List Row)) → IsMonotone V → IsAsked k n D → IsCombinedRun V k phase D (ca_run V k phase D)
run_is V k phase n D monotone asked =
    let least = depth_is_least V k phase n D monotone asked in
    record {
      depth = ca_depth V k phase D;
      blocks = ca_blocks V k phase D;
      from_one = least.from_one;
      made = blocks_are V k phase D (ca_depth V k phase D);
      quiet = least.quiet;
      least = λ other others from before made. subst (λ B. is_quiet V k (length D) D B ≡ false) (sym (blocks_only V k phase D other others made)) (least.least other from before);
      whole = refl;
    }

not_both : (t : Bool) → t ≡ true → t ≡ false → ⊥
not_both t is isn = cc

-- a run goes down to the least depth
run_depth : (V : List ℕ → ℕ) (k phase n : ℕ) (D : List (List Row)) (A : List Access) → IsMonotone V → IsAsked k n D → (run : IsCombinedRun V k phase D A)
    → run.depth ≡ ca_depth V k phase D
run_depth V k phase n D A monotone asked run =
    let least = depth_is_least V k phase n D monotone asked in
    let quiet : is_quiet V k (length D) D (ca_run_to V k phase D run.depth) ≡ true = subst (λ B. is_quiet V k (length D) D B ≡ true) (blocks_only V k phase D run.depth run.blocks run.made) run.quiet in
    elim (cases_lt run.depth (ca_depth V k phase D)) [
      | inl less ↦ absurd (not_both (is_quiet V k (length D) D (ca_run_to V k phase D run.depth)) quiet (least.least run.depth run.from_one less))
      | inr le ↦ elim (cases_lt (ca_depth V k phase D) run.depth) [
        | inl more ↦ absurd (not_both (is_quiet V k (length D) D (ca_blocks V k phase D)) least.quiet (run.least (ca_depth V k phase D) (ca_blocks V k phase D) least.from_one more (blocks_are V k phase D (ca_depth V k phase D))))
        | inr ge ↦ omega arith
      ]
    ]

-- and is the one that is computed
pub run_only : (V : List ℕ → ℕ) (k phase n : ℕ) (D : List (List Row)) (A : List Access) → IsMonotone V → IsAsked k n D → IsCombinedRun V k phase D A
    → A ≡ ca_run V k phase D
run_only V k phase n D A monotone asked run =
    let same : run.blocks ≡ ca_blocks V k phase D = blocks_only V k phase D run.depth run.blocks run.made ∙ ap (ca_run_to V k phase D) (run_depth V k phase n D A monotone asked run) in
    run.whole ∙ ap (λ B. B ++ finish V k D B) same

pub run_within : (V : List ℕ → ℕ) (k phase n : ℕ) (D : List (List Row)) (A : List Access) → IsMonotone V → IsAsked k n D → (run : IsCombinedRun V k phase D A)
    → run.depth ≤ n
run_within V k phase n D A monotone asked run =
    let least = depth_is_least V k phase n D monotone asked in
    let within = least.within in
    let same = run_depth V k phase n D A monotone asked run in
    omega arith

-- what it reads is what the table gives, without a wild guess
blocks_agree : (V : List ℕ → ℕ) (k phase n : ℕ) (D : List (List Row)) → IsMonotone V → IsAsked k n D → Agrees (length D) n D (ca_blocks V k phase D)
blocks_agree V k phase n D monotone asked = ca_agrees V k phase n (ca_depth V k phase D) D asked.table (depth_is_least V k phase n D monotone asked).within

first_of : (V : List ℕ → ℕ) (k m : ℕ) (A : List Access) → IsFirstK k (seen_items V m A) (first_seen V k m A)
first_of V k m A = first_k-is k (seen_items V m A) (items_distinct V m A)

pub run_agrees : (V : List ℕ → ℕ) (k phase n : ℕ) (D : List (List Row)) → IsMonotone V → IsAsked k n D → Agrees (length D) n D (ca_run V k phase D)
run_agrees V k phase n D monotone asked =
    let A = ca_blocks V k phase D in
    let agrees = blocks_agree V k phase n D monotone asked in
    asks_agree n D (Contains (seen_objects A)) A (finish V k D A) asked.table (λ o seen. seen_in_table (length D) n D A o agrees seen) agrees
    (λ a c. finish_asks V k D A a (first_of V k (length D) A).held c)

pub run_tame : (V : List ℕ → ℕ) (k phase : ℕ) (D : List (List Row)) → IsTame (ca_run V k phase D)
run_tame V k phase D =
    let A = ca_blocks V k phase D in
    asks_tame D A (finish V k D A) (ca_tame V k phase (ca_depth V k phase D) D) (λ a c. finish_asks V k D A a (first_of V k (length D) A).held c)

-- k objects that are put in the order of their aggregates stay the same objects
record SameObjects (Y Z : List ℕ) : Type 0 where
  sized : length Z ≡ length Y
  distinct : AllPairs (λ (a : ℕ) (b : ℕ). a ≢ b) Z
  within : (o : ℕ) → Contains Z o → Contains Y o
  back : (o : ℕ) → Contains Y o → Contains Z o

scored_same : (V : List ℕ → ℕ) (D : List (List Row)) (Y : List ℕ) → AllPairs (λ (a : ℕ) (b : ℕ). a ≢ b) Y
    → SameObjects Y (item_objects (first_k (length Y) (map (scored V D) Y)))
scored_same V D Y apart =
    let items : List Item = map (scored V D) Y in
    let first : List Item = first_k (length Y) items in
    let is : IsFirstK (length Y) items first = first_k-is (length Y) items (scored_distinct V D Y apart) in
    let made : length items ≡ length Y = length-map Y (scored V D) in
    let long : length (in_order items) ≡ length Y = length-in_order items ∙ made in
    let all : first ≡ in_order items = ap (λ d. take d (in_order items)) (sym long) ∙ take-length (in_order items) in
    let item_of : (item : Item) → Contains first item → Contains Y item.object × (scored V D item.object ≡ item) = λ item c. scored_member V D Y item (All-contains (Contains items) first item is.held c) in
    record {
      sized = length-map first (λ (item : Item). item.object) ∙ ap length all ∙ long;
      distinct = objects_from_distinct first (λ i j d lt in_range same.
          let one : Item = get_or first i d in
          let two : Item = get_or first j d in
          let equal : one ≡ two = sym (item_of one (contains_at first i d (omega arith))).1 ∙ ap (scored V D) same ∙ (item_of two (contains_at first j d in_range)).1 in
          IsBefore-irreflexive one (subst (λ other. IsBefore one other) (sym equal) (is.ordered i j d lt in_range)));
      within = λ o c.
          let from = contains_map_from (λ (item : Item). item.object) first o c in
          subst (Contains Y) from.2 (item_of from.0 from.1).0;
      back = λ o c.
          let here : Contains (in_order items) (scored V D o) = Contains-from_has (in_order items) (scored V D o) (has-in_order items (scored V D o) ∙ has_from_Contains items (scored V D o) (contains_map (scored V D) Y o c)) in
          contains_map (λ (item : Item). item.object) first (scored V D o) (subst (λ t. Contains t (scored V D o)) (sym all) here);
    }

same_top : (V : List ℕ → ℕ) (k : ℕ) (D : List (List Row)) (Y Z : List ℕ) → SameObjects Y Z → IsTop V k D Y → IsTop V k D Z
same_top V k D Y Z same top = record {
  sized = same.sized ∙ top.sized;
  distinct = same.distinct;
  members = all_from_members (Contains (objects_of D)) Z (λ o c. All-contains (Contains (objects_of D)) Y o top.members (same.within o c));
  unbeaten = λ inside outside c here out. top.unbeaten inside outside (same.within inside c) here (λ y. out (same.back outside y));
}

-- its answer is a top k
pub ca_answer_top : (V : List ℕ → ℕ) (k phase n : ℕ) (D : List (List Row)) → IsMonotone V → IsAsked k n D → IsTop V k D (item_objects (ca_answer V k phase D))
ca_answer_top V k phase n D monotone asked =
    let least = depth_is_least V k phase n D monotone asked in
    let A = ca_blocks V k phase D in
    let agrees = blocks_agree V k phase n D monotone asked in
    let Y : List ℕ = item_objects (first_seen V k (length D) A) in
    let top : IsTop V k D Y =
    quiet_top V k (length D) D A asked.positive
    (record { below = λ object here. low_holds V (length D) n D A object monotone agrees; above = λ object here. high_holds V (length D) n D A object monotone agrees })
    (λ object seen. seen_in_table (length D) n D A object agrees seen)
    (first_distinct V k (length D) A)
    (first_of V k (length D) A)
    least.quiet in
    same_top V k D Y (item_objects (ca_answer V k phase D)) (subst (λ d. SameObjects Y (item_objects (first_k d (map (scored V D) Y)))) top.sized (scored_same V D Y top.distinct)) top
