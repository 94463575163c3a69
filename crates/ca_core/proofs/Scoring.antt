-- What a machine that is done answers.
use Rattle.std.proofs.Common.{◌≡◌, ◌≢◌, ℕ, suc, ◌≤◌, List, [], ◌∷◌, length, map, AllPairs, Contains, get_or, refl, sym, ap, ap₂, subst, ◌∙◌, arith}
use Rattle.std.proofs.lemmas.List.{length-map, get_or-map, take_all}
use Rattle.ranked_list.specs.declared.row.Row.{Row}
use Rattle.ranked_list.specs.declared.item.Item.{Item}
use Rattle.ranked_list.specs.declared.need.Need.TheVariants as needs
use Rattle.monotone_fn.specs.Value.{value}
use Rattle.monotone_fn.proofs.Laws.{value-monotone}
use Rattle.topk_theory.specs.declared.access.Access.{Access}
use Rattle.topk_theory.specs.Order.{AreDistinct, in_order, first_k}
use Rattle.topk_theory.specs.Asked.{combined_answer}
use Rattle.topk_theory.specs.Aggregate.{IsTop, aggregate}
use Rattle.topk_theory.specs.Transcript.{Agrees, seen_objects, named_objects}
use Rattle.topk_theory.specs.Bounds.{low}
use Rattle.topk_theory.specs.Threshold.{scored, item_objects}
use Rattle.topk_theory.specs.NoRandom.{seen_items, first_seen}
use Rattle.topk_theory.specs.Combined.{phase_length, ca_blocks, ca_answer}
use Rattle.topk_theory.proofs.AgreementLists.{contains_map, contains_map_from, member_of_all}
use Rattle.topk_theory.proofs.Agreement.{seen_is_named}
use Rattle.topk_theory.proofs.InOrder.{length-in_order}
use Rattle.nra_core.proofs.Stop.{in_order_from}
use Rattle.topk_theory.proofs.FirstK.{first_k-is}
use Rattle.topk_theory.proofs.NoRandomLaws.{items_distinct}
use Rattle.topk_theory.proofs.CombinedLaws.{ca_answer_top}
use Rattle.access_log.specs.Log.{AgreesWith}
use Rattle.machine_base.specs.declared.base.Base.{Base}
use Rattle.machine_base.specs.Base.{shown}
use Rattle.machine_base.proofs.Held.{held_asked}
use Rattle.machine_base.proofs.Known.{low_exact}
use Rattle.machine_base.proofs.Makes.{answer_by}
use Rattle.ca_core.specs.declared.stage.Stage.{Stage}
use Rattle.ca_core.specs.declared.stage.Stage.TheVariants as stages
use Rattle.ca_core.specs.Course.{need_at, valued}
use Rattle.machine_base.specs.Asking.{AreKnown, AreAsked}
use Rattle.ca_core.specs.Kept.{Keeps}
use Rattle.ca_core.specs.Machine.{IsAnswer}

-- ---- the items are scored
pub valued_distinct : (V : List ℕ → ℕ) (m : ℕ) (A : List Access) (first items : List Item)
    → AllPairs (λ (one : ℕ) (other : ℕ). one ≢ other) (item_objects first) → items ≡ map (λ (item : Item). valued V m A item.object) first → AreDistinct items
valued_distinct V m A first items apart is = subst AreDistinct (sym is) (λ i j d lt within same.
    let none : Item = record { object = 0; low = 0; high = 0 } in
    let size : length (map (λ (item : Item). valued V m A item.object) first) ≡ length first = length-map first (λ (item : Item). valued V m A item.object) in
    let count : length (item_objects first) ≡ length first = length-map first (λ (item : Item). item.object) in
    let at_i : get_or (map (λ (item : Item). valued V m A item.object) first) i d ≡ valued V m A (get_or first i none).object = get_or-map (λ (item : Item). valued V m A item.object) first i none d (omega arith) in
    let at_j : get_or (map (λ (item : Item). valued V m A item.object) first) j d ≡ valued V m A (get_or first j none).object = get_or-map (λ (item : Item). valued V m A item.object) first j none d (omega arith) in
    let of_i : get_or (item_objects first) i 0 ≡ (get_or first i none).object = get_or-map (λ (item : Item). item.object) first i none 0 (omega arith) in
    let of_j : get_or (item_objects first) j 0 ≡ (get_or first j none).object = get_or-map (λ (item : Item). item.object) first j none 0 (omega arith) in
    apart i j 0 lt (omega arith) (of_i ∙ sym (ap (λ (item : Item). item.object) at_i) ∙ same ∙ ap (λ (item : Item). item.object) at_j ∙ sym of_j))

abbrev with_value : ℕ → ℕ → Item
with_value object v = record { object = object; low = v; high = v }

valued_scored : (V : List ℕ → ℕ) (m n : ℕ) (D : List (List Row)) (A : List Access) (first : List Item) → Agrees m n D A → AreKnown m A (item_objects first)
    → map (λ (item : Item). valued V m A item.object) first ≡ map (scored V D) (item_objects first)
valued_scored V m n D A [] agrees known = refl
valued_scored V m n D A (item ∷ first) agrees known =
    let exact : low V m A item.object ≡ aggregate V D item.object = low_exact V m n D A item.object agrees (known 0 0 (omega arith)) in
    ap₂ (λ (x : Item) xs. x ∷ xs) (ap (with_value item.object) exact) (valued_scored V m n D A first agrees (λ k d l. known (suc k) d (omega arith)))

-- the first k are no more than k
first_short : (V : List ℕ → ℕ) (k m : ℕ) (A : List Access) → length (first_seen V k m A) ≤ k
first_short V k m A = let size = (first_k-is k (seen_items V m A) (items_distinct V m A)).size in omega (arith, size)

order_whole : (k : ℕ) (items : List Item) → length items ≤ k → in_order items ≡ first_k k items
order_whole k items short = sym (take_all k (in_order items) (let size = length-in_order items in omega (arith, size)))

row_not_done : (list depth : ℕ) → needs.Row list depth ≡ needs.Done → ⊥
row_not_done list depth e = cc

grade_not_done : (list object : ℕ) → needs.Grade list object ≡ needs.Done → ⊥
grade_not_done list object e = cc

done_of : (stage : Stage) → need_at stage ≡ needs.Done → stage ≡ stages.Done
done_of (stages.Row list depth) e = absurd (row_not_done list depth e)
done_of (stages.Choice list object depth) e = absurd (grade_not_done list object e)
done_of (stages.Finish ask) e = absurd (grade_not_done ask.list ask.object e)
done_of stages.Done e = refl

pub finished : (base : Base) (phase : ℕ) (first : List Item) (stage : Stage) → Keeps base phase first stage → need_at stage ≡ needs.Done
    → AreAsked base.transcript.lists base.transcript.accesses (item_objects first)
finished base phase first stage kept done = (subst (Keeps base phase first) (done_of stage done) kept).sound

-- and they are few
pub few_first : (base : Base) (phase : ℕ) (first : List Item) (stage : Stage) → Keeps base phase first stage → need_at stage ≡ needs.Done
    → length first ≤ 200000
few_first base phase first stage kept' done =
    let kept : Keeps base phase first stages.Done = subst (Keeps base phase first) (done_of stage done) kept' in
    let D = kept.base.agreeing.0 in
    let on = kept.on_table D kept.base.agreeing.1 in
    let blocks = ca_blocks (value base.expr) base.k phase D in
    let size : length (item_objects first) ≡ length first = length-map first (λ (item : Item). item.object) in
    let same : length (item_objects first) ≡ length (item_objects (first_seen (value base.expr) base.k (length D) blocks)) = ap length on.first in
    let count : length (item_objects (first_seen (value base.expr) base.k (length D) blocks)) ≡ length (first_seen (value base.expr) base.k (length D) blocks) = length-map (first_seen (value base.expr) base.k (length D) blocks) (λ (item : Item). item.object) in
    let short = first_short (value base.expr) base.k (length D) blocks in
    let fits = kept.base.posed.fits in
    let few = kept.base.counted in
    omega arith

pub answers : (base : Base) (phase : ℕ) (first : List Item) (stage : Stage) (items : List Item) → Keeps base phase first stage
    → phase ≡ phase_length base.costs.sorted base.costs.random → need_at stage ≡ needs.Done
    → items ≡ in_order (map (λ (item : Item). valued (value base.expr) base.transcript.lists base.transcript.accesses item.object) first) → IsAnswer (shown base (need_at stage)) items
answers base phase first stage items kept' paid done is =
    let V = value base.expr in
    let k : ℕ = base.k in
    let m : ℕ = base.transcript.lists in
    let n : ℕ = base.transcript.count in
    let A = base.transcript.accesses in
    let kept : Keeps base phase first stages.Done = subst (Keeps base phase first) (done_of stage done) kept' in
    let exact : (D : List (List Row)) → AgreesWith D base.transcript → items ≡ ca_answer V k phase D = λ D agrees.
    let on = kept.on_table D agrees in
    let count : length (item_objects (first_seen V k (length D) (ca_blocks V k phase D))) ≡ length (first_seen V k (length D) (ca_blocks V k phase D)) = length-map (first_seen V k (length D) (ca_blocks V k phase D)) (λ (item : Item). item.object) in
    let size : length (map (scored V D) (item_objects (first_seen V k (length D) (ca_blocks V k phase D)))) ≡ length (item_objects (first_seen V k (length D) (ca_blocks V k phase D))) = length-map (item_objects (first_seen V k (length D) (ca_blocks V k phase D))) (scored V D) in
    let short = first_short V k (length D) (ca_blocks V k phase D) in
    is ∙ ap in_order (valued_scored V m n D A first agrees kept.sound.known ∙ ap (map (scored V D)) on.first)
    ∙ order_whole k (map (scored V D) (item_objects (first_seen V k (length D) (ca_blocks V k phase D)))) (omega (arith, count, size, short)) in
    let top : (D : List (List Row)) → AgreesWith D base.transcript → IsTop V k D (item_objects items) = λ D agrees.
    subst (λ xs. IsTop V k D (item_objects xs)) (sym (exact D agrees)) (ca_answer_top V k phase n D (value-monotone base.expr) (held_asked base.expr k base.room m n A D kept.base agrees)) in
    let named : (o : ℕ) → Contains (item_objects items) o → Contains (named_objects A) o = λ o c.
    let from = contains_map_from (λ (item : Item). item.object) items o c in
    let there : Contains (map (λ (item : Item). valued V m A item.object) first) from.0 = in_order_from (map (λ (item : Item). valued V m A item.object) first) from.0 (subst (λ xs. Contains xs from.0) is from.1) in
    let back = contains_map_from (λ (item : Item). valued V m A item.object) first from.0 there in
    let same : back.0.object ≡ o = ap (λ (item : Item). item.object) back.2 ∙ from.2 in
    seen_is_named A o (subst (λ x. Contains (seen_objects A) x) same (member_of_all (Contains (seen_objects A)) (item_objects first) back.0.object kept.sound.listed.seen (contains_map (λ (item : Item). item.object) first back.0 back.1))) in
    answer_by combined_answer (shown base (need_at stage)) items kept'.base.agreeing
    (λ D agrees. subst (λ p. items ≡ ca_answer V k p D) paid (exact D agrees)) top named

-- the answer has as many items
pub few_scored : (V : List ℕ → ℕ) (m : ℕ) (A : List Access) (first items : List Item) → length first ≤ 200000
    → items ≡ in_order (map (λ (item : Item). valued V m A item.object) first) → length items ≤ 200000
few_scored V m A first items few is =
    let size : length items ≡ length (in_order (map (λ (item : Item). valued V m A item.object) first)) = ap length is in
    let same = length-in_order (map (λ (item : Item). valued V m A item.object) first) in
    let count : length (map (λ (item : Item). valued V m A item.object) first) ≡ length first = length-map first (λ (item : Item). valued V m A item.object) in
    omega (arith, size, same, count, few)
