-- The items of the seen objects, in order.
use Rattle.std.proofs.Common.{◌≡◌, ℕ, List, get_or, Contains, sym, ap, subst, ◌∙◌, arith}
use Rattle.ranked_list.specs.declared.item.Item.{Item}
use Rattle.topk_theory.specs.Order.{IsBefore, AreDistinct, in_order}
use Rattle.topk_theory.specs.declared.access.Access.{Access}
use Rattle.topk_theory.specs.Transcript.{seen_objects}
use Rattle.topk_theory.specs.Bounds.{bounded}
use Rattle.topk_theory.specs.NoRandom.{seen_items}
use Rattle.topk_theory.proofs.AgreementLists.{contains_at, contains_map}
use Rattle.topk_theory.proofs.OrderLaws.{IsBefore-irreflexive}
use Rattle.topk_theory.proofs.InOrder.{in_order-ordered}
use Rattle.topk_theory.proofs.NoRandomLaws.{items_distinct}
use Rattle.topk_theory.proofs.NoRandomTop.{object_of_seen}
use Rattle.nra_core.proofs.Stop.{in_order_from, in_order_to}

-- an item there is that of a seen object, with its bounds
pub of_seen : (V : List ℕ → ℕ) (m : ℕ) (A : List Access) (item : Item) → Contains (in_order (seen_items V m A)) item
    → Contains (seen_objects A) item.object × (item ≡ bounded V m A item.object)
of_seen V m A item c = object_of_seen V m A item (in_order_from (seen_items V m A) item c)

pub seen_there : (V : List ℕ → ℕ) (m : ℕ) (A : List Access) (object : ℕ) → Contains (seen_objects A) object
    → Contains (in_order (seen_items V m A)) (bounded V m A object)
seen_there V m A object c = in_order_to (seen_items V m A) (bounded V m A object) (contains_map (bounded V m A) (seen_objects A) object c)

pub distinct_in_order : (V : List ℕ → ℕ) (m : ℕ) (A : List Access) → AreDistinct (in_order (seen_items V m A))
distinct_in_order V m A = λ i j d lt in_range same.
    let sorted = in_order (seen_items V m A) in
    let one : Item = get_or sorted i d in
    let two : Item = get_or sorted j d in
    let one_is : one ≡ bounded V m A one.object = (of_seen V m A one (contains_at sorted i d (omega arith))).1 in
    let two_is : two ≡ bounded V m A two.object = (of_seen V m A two (contains_at sorted j d in_range)).1 in
    let equal : one ≡ two = one_is ∙ ap (bounded V m A) same ∙ sym two_is in
    IsBefore-irreflexive one (subst (λ other. IsBefore one other) (sym equal) (in_order-ordered (seen_items V m A) (items_distinct V m A) i j d lt in_range))
