-- What a machine that is done answers.
use Rattle.std.proofs.Common.{◌≡◌, ℕ, ◌+◌, ◌<◌, ◌≤◌, List, [], ◌∷◌, ◌++◌, length, map, take, Contains, Some, get_or, refl, sym, ap, subst, ◌∙◌, arith}
use Rattle.std.specs.List.{slice_get}
use Rattle.std.proofs.lemmas.List.{length-map, length-take, get_or-map, map-append, take_more}
use Rattle.std.proofs.lemmas.Option.{same_Some, slice_get_within, slice_get-get_or}
use Rattle.ranked_list.specs.declared.row.Row.{Row}
use Rattle.ranked_list.specs.declared.item.Item.{Item}
use Rattle.ranked_list.specs.declared.need.Need.TheVariants as needs
use Rattle.monotone_fn.specs.Value.{value}
use Rattle.monotone_fn.proofs.Laws.{value-monotone}
use Rattle.topk_theory.specs.declared.access.Access.{Access}
use Rattle.topk_theory.specs.Order.{AreDistinct, in_order, first_k}
use Rattle.topk_theory.specs.Aggregate.{IsTop, aggregate}
use Rattle.topk_theory.specs.Transcript.{Agrees, seen_objects, named_objects}
use Rattle.topk_theory.specs.Bounds.{low}
use Rattle.topk_theory.specs.Combined.{unknown_lists}
use Rattle.topk_theory.specs.Threshold.{scored, item_objects}
use Rattle.topk_theory.proofs.AgreementLists.{member_of_all}
use Rattle.topk_theory.proofs.Agreement.{seen_is_named, seen_distinct}
use Rattle.topk_theory.proofs.ThresholdLists.{map_same}
use Rattle.access_log.specs.Log.{AgreesWith}
use Rattle.machine_base.specs.declared.base.Base.{Base}
use Rattle.machine_base.specs.Base.{shown}
use Rattle.machine_base.specs.Asking.{AreKnown}
use Rattle.machine_base.proofs.Held.{held_asked}
use Rattle.machine_base.proofs.Known.{low_exact}
use Rattle.machine_base.proofs.Makes.{answer_by}
use Rattle.algorithm_theory.specs.Fagin.{fa_seen, fa_answer, fagin_answer}
use Rattle.algorithm_theory.proofs.FaginRuns.{always_no_shallower}
use Rattle.algorithm_theory.proofs.FaginTop.{fa_answer_top, answer_seen}
use Rattle.fa_core.specs.declared.stage.Stage.{Stage}
use Rattle.fa_core.specs.declared.stage.Stage.TheVariants as stages
use Rattle.fa_core.specs.Course.{need_at, valued}
use Rattle.fa_core.specs.Kept.{Keeps}
use Rattle.fa_core.specs.Machine.{IsAnswer, ReadsNoShallower}

-- ---- the seen objects are collected
pub one_collected : (V : List ℕ → ℕ) (m : ℕ) (A : List Access) (place object v : ℕ) (before after : List Item) → slice_get (seen_objects A) place ≡ Some object
    → v ≡ low V m A object → before ≡ map (valued V m A) (take place (seen_objects A)) → after ≡ before ++ record { object = object; low = v; high = v } ∷ []
    → after ≡ map (valued V m A) (take (place + 1) (seen_objects A))
one_collected V m A place object v before after at is before_is after_is =
    let seen : List ℕ = seen_objects A in
    let l : place < length seen = slice_get_within seen place object at in
    let here : get_or seen place 0 ≡ object = same_Some (get_or seen place 0) object (sym (slice_get-get_or seen place 0 l) ∙ at) in
    let taken : take (place + 1) seen ≡ take place seen ++ object ∷ [] = take_more seen place 0 l ∙ ap (λ x. take place seen ++ x ∷ []) here in
    after_is
    ∙ ap (λ (u : ℕ). before ++ record { object = object; low = u; high = u } ∷ []) is
    ∙ ap (λ items. items ++ valued V m A object ∷ []) before_is
    ∙ sym (map-append (valued V m A) (take place seen) (object ∷ []))
    ∙ ap (map (valued V m A)) (sym taken)

pub valued_distinct : (V : List ℕ → ℕ) (m : ℕ) (A : List Access) (items : List Item) → items ≡ map (valued V m A) (seen_objects A) → AreDistinct items
valued_distinct V m A items is = subst AreDistinct (sym is) (λ i j d lt within same.
    let size : length (map (valued V m A) (seen_objects A)) ≡ length (seen_objects A) = length-map (seen_objects A) (valued V m A) in
    let at_i : get_or (map (valued V m A) (seen_objects A)) i d ≡ valued V m A (get_or (seen_objects A) i 0) = get_or-map (valued V m A) (seen_objects A) i 0 d (omega arith) in
    let at_j : get_or (map (valued V m A) (seen_objects A)) j d ≡ valued V m A (get_or (seen_objects A) j 0) = get_or-map (valued V m A) (seen_objects A) j 0 d (omega arith) in
    seen_distinct A i j 0 lt (omega arith) (sym (ap (λ (item : Item). item.object) at_i) ∙ same ∙ ap (λ (item : Item). item.object) at_j))

-- ---- a machine that is done
row_not_done : (list depth : ℕ) → needs.Row list depth ≡ needs.Done → ⊥
row_not_done list depth e = cc

grade_not_done : (list object : ℕ) → needs.Grade list object ≡ needs.Done → ⊥
grade_not_done list object e = cc

done_of : (stage : Stage) → need_at stage ≡ needs.Done → stage ≡ stages.Done
done_of (stages.Row list depth common) e = absurd (row_not_done list depth e)
done_of (stages.Asking ask) e = absurd (grade_not_done ask.list ask.object e)
done_of stages.Done e = refl

pub kept_done : (base : Base) (stage : Stage) → Keeps base stage → need_at stage ≡ needs.Done → Keeps base stages.Done
kept_done base stage kept done = subst (Keeps base) (done_of stage done) kept

abbrev with_value : ℕ → ℕ → Item
with_value object v = record { object = object; low = v; high = v }

valued_scored : (V : List ℕ → ℕ) (m n : ℕ) (D : List (List Row)) (A : List Access) → Agrees m n D A → AreKnown m A (seen_objects A)
    → map (valued V m A) (seen_objects A) ≡ map (scored V D) (seen_objects A)
valued_scored V m n D A agrees known =
    map_same (valued V m A) (scored V D) (seen_objects A) (λ o c.
    let exact : low V m A o ≡ aggregate V D o = low_exact V m n D A o agrees (member_of_all (λ object. unknown_lists m A object ≡ []) (seen_objects A) o known c) in
    ap (with_value o) exact)

pub answers : (base : Base) (stage : Stage) (items : List Item) → Keeps base stage → need_at stage ≡ needs.Done
    → items ≡ first_k base.k (map (valued (value base.expr) base.transcript.lists base.transcript.accesses) (seen_objects base.transcript.accesses)) → IsAnswer (shown base (need_at stage)) items
answers base stage items kept' done is =
    let V = value base.expr in
    let k : ℕ = base.k in
    let m : ℕ = base.transcript.lists in
    let n : ℕ = base.transcript.count in
    let A = base.transcript.accesses in
    let kept : Keeps base stages.Done = kept_done base stage kept' done in
    let exact : (D : List (List Row)) → AgreesWith D base.transcript → items ≡ fa_answer V k D = λ D agrees.
    is ∙ ap (first_k k) (valued_scored V m n D A agrees kept.sound.known ∙ ap (map (scored V D)) (kept.on_table D agrees).seen) in
    let top : (D : List (List Row)) → AgreesWith D base.transcript → IsTop V k D (item_objects items) = λ D agrees.
    subst (λ xs. IsTop V k D (item_objects xs)) (sym (exact D agrees)) (fa_answer_top V k n D (value-monotone base.expr) (held_asked base.expr k base.room m n A D kept.base agrees)) in
    let some = kept.base.agreeing.0 in
    let agrees_some : AgreesWith some base.transcript = kept.base.agreeing.1 in
    let named : (o : ℕ) → Contains (item_objects items) o → Contains (named_objects A) o = λ o c.
    let there : Contains (fa_seen k some) o = answer_seen V k some o (subst (λ xs. Contains (item_objects xs) o) (exact some agrees_some) c) in
    seen_is_named A o (subst (λ os. Contains os o) (sym (kept.on_table some agrees_some).seen) there) in
    answer_by fagin_answer (shown base (need_at stage)) items kept.base.agreeing exact top named

-- ---- it has read no less deep than the threshold algorithm
pub no_shallower : (base : Base) (stage : Stage) → Keeps base stage → need_at stage ≡ needs.Done → ReadsNoShallower (shown base (need_at stage))
no_shallower base stage kept' done =
    let kept : Keeps base stages.Done = kept_done base stage kept' done in
    always_no_shallower (value base.expr) base.k base.transcript.lists base.transcript.count base.transcript.accesses (value-monotone base.expr) (record {
      lists = omega (arith, kept.base.some_list);
      positive = kept.base.posed.positive;
      fits = kept.base.posed.fits;
      always = λ D agrees. (kept.on_table D agrees).made;
    })

-- ---- the items are few
pub few_items : (base : Base) (stage : Stage) (items all : List Item) → Keeps base stage → items ≡ first_k base.k all → length items ≤ 200000
few_items base stage items all kept is =
    let size : length items ≡ length (first_k base.k all) = ap (λ (xs : List Item). length xs) is in
    let short : length (first_k base.k all) ≤ base.k = omega (arith, length-take base.k (in_order all)) in
    omega (arith, kept.base.posed.fits, kept.base.counted)
