-- What a machine that is done answers.
use Rattle.std.proofs.Common.{◌≡◌, ℕ, ◌≤◌, inl, inr, true, List, length, Contains, sym, ap, subst, ◌∙◌, arith}
use Rattle.std.proofs.lemmas.Bool.{cases_Bool}
use Rattle.std.proofs.lemmas.List.{length-take}
use Rattle.ranked_list.specs.declared.row.Row.{Row}
use Rattle.ranked_list.specs.declared.item.Item.{Item}
use Rattle.ranked_list.specs.declared.need.Need.TheVariants.{Row as RowAt, Done}
use Rattle.monotone_fn.specs.Value.{value}
use Rattle.monotone_fn.proofs.Laws.{value-monotone}
use Rattle.topk_theory.specs.Order.{in_order, first_k}
use Rattle.topk_theory.specs.Asked.{no_random_answer}
use Rattle.topk_theory.specs.Aggregate.{IsTop, aggregate}
use Rattle.topk_theory.specs.Transcript.{named_objects, seen_objects}
use Rattle.topk_theory.specs.Bounds.{bounded, low, high}
use Rattle.topk_theory.specs.Threshold.{item_objects}
use Rattle.topk_theory.specs.NoRandom.{seen_items, first_seen, nra_answer}
use Rattle.topk_theory.proofs.AgreementLists.{contains_map_from, all_from_members, take_within}
use Rattle.topk_theory.proofs.Agreement.{seen_is_named}
use Rattle.topk_theory.proofs.BoundsLaws.{low_holds, high_holds}
use Rattle.topk_theory.proofs.NoRandomLaws.{nra_answer_top}
use Rattle.access_log.specs.Log.{AgreesWith}
use Rattle.machine_base.specs.declared.base.Base.{Base}
use Rattle.machine_base.specs.Base.{shown}
use Rattle.machine_base.proofs.Held.{held_asked}
use Rattle.machine_base.proofs.Makes.{answer_by}
use Rattle.nra_core.specs.declared.place.Place.{Place}
use Rattle.nra_core.specs.Place.{need_at}
use Rattle.nra_core.specs.Kept.{Keeps}
use Rattle.nra_core.specs.Machine.{IsAnswer, HaveTrueBounds}
use Rattle.nra_core.proofs.SeenItems.{of_seen}
use Rattle.nra_core.specs.declared.late.LateBounds.{LateBounds}
use Rattle.nra_core.proofs.Steps.{run_of}
use Rattle.nra_core.proofs.Runs.{need_of_row}

done_from_need : (place : Place) → need_at place ≡ Done → place.done ≡ true
done_from_need place e =
    elim (cases_Bool place.done) [
      | inl done ↦ done
      | inr open' ↦ absurd (not_row place.list place.depth (sym (need_of_row place open') ∙ e))
    ]
  where
    not_row : (l d : ℕ) → RowAt l d ≡ Done → ⊥
    not_row l d e = cc

pub answers : (base : Base) (late : LateBounds) (place : Place) (answer : List Item) → Keeps base late place → need_at place ≡ Done
    → answer ≡ first_seen (value base.expr) base.k base.transcript.lists base.transcript.accesses → IsAnswer (shown base (need_at place)) answer
answers base late place answer kept done is =
    let V = value base.expr in
    let k : ℕ = base.k in
    let m : ℕ = base.transcript.lists in
    let n : ℕ = base.transcript.count in
    let A = base.transcript.accesses in
    let made : place.done ≡ true = done_from_need place done in
    let exact : (D : List (List Row)) → AgreesWith D base.transcript → answer ≡ nra_answer V k D = λ D agrees.
    is ∙ ap (λ c. first_seen V k c A) (sym agrees.lists) ∙ ap (λ B. first_seen V k (length D) B) (run_of V k n D A place made (kept.on_table D agrees)) in
    let top : (D : List (List Row)) → AgreesWith D base.transcript → IsTop V k D (item_objects answer) = λ D agrees.
    subst (λ xs. IsTop V k D (item_objects xs)) (sym (exact D agrees)) (nra_answer_top V k n D (value-monotone base.expr) (held_asked base.expr k base.room m n A D kept.base agrees)) in
    let named : (o : ℕ) → Contains (item_objects answer) o → Contains (named_objects A) o = λ o c.
    let from = contains_map_from (λ (item : Item). item.object) answer o c in
    let there = take_within k (in_order (seen_items V m A)) from.0 (subst (λ xs. Contains xs from.0) is from.1) in
    subst (λ x. Contains (named_objects A) x) from.2 (seen_is_named A from.0.object (of_seen V m A from.0 there).0) in
    answer_by no_random_answer (shown base (need_at place)) answer kept.base.agreeing exact top named

pub true_bounds : (base : Base) (place : Place) (answer : List Item)
    → answer ≡ first_seen (value base.expr) base.k base.transcript.lists base.transcript.accesses
    → HaveTrueBounds (shown base (need_at place)) answer
true_bounds base place answer first =
    let V = value base.expr in
    let m : ℕ = base.transcript.lists in
    let A = base.transcript.accesses in
    let is : (item : Item) → Contains answer item → item ≡ bounded V m A item.object = λ item c.
    (of_seen V m A item (take_within base.k (in_order (seen_items V m A)) item (subst (λ xs. Contains xs item) first c))).1 in
    let low_is : (item : Item) → Contains answer item → item.low ≡ low V m A item.object = λ item c. ap (λ (i : Item). i.low) (is item c) in
    let high_is : (item : Item) → Contains answer item → item.high ≡ high V m A item.object = λ item c. ap (λ (i : Item). i.high) (is item c) in
    record {
      lows = all_from_members (λ (item : Item). item.low ≡ low V m A item.object) answer low_is;
      highs = all_from_members (λ (item : Item). item.high ≡ high V m A item.object) answer high_is;
      hold = λ D agrees. all_from_members (λ (item : Item). (item.low ≤ aggregate V D item.object) × (aggregate V D item.object ≤ item.high)) answer (λ item c. (
        omega (arith, low_is item c, low_holds V m base.transcript.count D A item.object (value-monotone base.expr) agrees),
        omega (arith, high_is item c, high_holds V m base.transcript.count D A item.object (value-monotone base.expr) agrees),
      ));
    }

-- the items that what is kept gives are the first k
pub first_of : (base : Base) (late : LateBounds) (place : Place) (items : List Item) → Keeps base late place
    → items ≡ first_k late.k (seen_items (value base.expr) base.transcript.lists base.transcript.accesses)
    → items ≡ first_seen (value base.expr) base.k base.transcript.lists base.transcript.accesses
first_of base late place items kept is = is ∙ ap (λ k. first_k k (seen_items (value base.expr) base.transcript.lists base.transcript.accesses)) kept.asked

-- and they are few
pub few_items : (base : Base) (late : LateBounds) (place : Place) (items : List Item) → Keeps base late place
    → items ≡ first_k late.k (seen_items (value base.expr) base.transcript.lists base.transcript.accesses) → length items ≤ 200000
few_items base late place items kept is =
    let all : List Item = in_order (seen_items (value base.expr) base.transcript.lists base.transcript.accesses) in
    let size : length items ≡ length (first_k late.k (seen_items (value base.expr) base.transcript.lists base.transcript.accesses)) = ap (λ (xs : List Item). length xs) is in
    let short : length (first_k late.k (seen_items (value base.expr) base.transcript.lists base.transcript.accesses)) ≤ late.k = omega (arith, length-take late.k all) in
    omega (arith, kept.asked, kept.base.posed.fits, kept.base.counted)

-- and so many are seen
pub many_seen : (base : Base) (late : LateBounds) (place : Place) → Keeps base late place → need_at place ≡ Done
    → late.k ≤ length (seen_objects base.transcript.accesses)
many_seen base late place kept done = let many = kept.enough (done_from_need place done) in let asked = kept.asked in omega arith
