-- What putting an item does to the items of the objects, and that these settle the order.
use Rattle.std.proofs.Common.{◌≡◌, ◌==◌, ℕ, zero, suc, ◌+◌, ◌<◌, ◌≤◌, Bool, true, false, cond, List, [], ◌∷◌, length, Some, refl, sym, ap, ◌∙◌, arith}
use Rattle.std.specs.declared.cmp.Ordering.TheVariants.{Less, Equal, Greater}
use Rattle.std.specs.Ordering.{nat_cmp, match_ordering}
use Rattle.std.specs.List.{All, Contains}
use Rattle.std.proofs.lemmas.Bool.{eqb-true, eq-eqb, false≢true}
use Rattle.std.proofs.lemmas.Cmp.{ranked}
use Rattle.std.proofs.lemmas.List.Elements.{All-cons, All-head, All-tail, All-weaker}
use Rattle.std.proofs.lemmas.List.Kept.{AllPairs-cons}
use Rattle.std.proofs.lemmas.Map.Made.{Contains-tail}
use Rattle.std.proofs.lemmas.Option.{none-some, same_Some}
use Rattle.ranked_list.specs.declared.item.Item.{Item}
use Rattle.machine_base.specs.Held.{IsRising, item_at}
use Rattle.ranked_list.specs.Items.{put_item}
use Rattle.topk_theory.specs.Order.{AreDistinct, in_order}
use Rattle.topk_theory.proofs.InOrder.{AreDistinct-rest, AreDistinct-first, in_order-same}

-- where a test of one key holds, so does that of an equal one
tied_keys : {A : Type 0} (t u : Bool) (x : A) (y : A) (z : A) → u ≡ t → cond t x z ≡ cond t x (cond u y z)
tied_keys true u x y z e = refl
tied_keys false u x y z e = ap (λ b. cond b y z) (sym e)

-- tests that don't hold both may change places
apart_keys : {A : Type 0} (t u : Bool) (x : A) (y : A) (z : A) → (t ≡ true → u ≡ true → ⊥) → cond u y (cond t x z) ≡ cond t x (cond u y z)
apart_keys true true x y z h = absurd (h refl refl)
apart_keys true false x y z h = refl
apart_keys false u x y z h = refl

-- after an item was put its object has it, and each other object has the item it had
pub item_at-put_item : (object : ℕ) (item : Item) (items : List Item)
    → item_at object (put_item item items) ≡ cond (item.object == object) (Some item) (item_at object items)
item_at-put_item object item [] = refl
item_at-put_item object item (held ∷ others) =
    let t = item.object == object in
    let u = held.object == object in
    elim (nat_cmp item.object held.object) as (λ r. nat_cmp item.object held.object ≡ r → item_at object (match_ordering r (item ∷ held ∷ others) (item ∷ others) (held ∷ put_item item others)) ≡ cond t (Some item) (item_at object (held ∷ others))) [
      | Less ↦ λ _. refl
      | Equal ↦ λ e.
          let same : held.object ≡ item.object = sym (ranked item.object held.object Equal (sym e)) in
          tied_keys t u (Some item) (Some held) (item_at object others) (ap (λ (o : ℕ). o == object) same)
      | Greater ↦ λ e.
          let below : held.object < item.object = ranked item.object held.object Greater (sym e) in
          ap (cond u (Some held)) (item_at-put_item object item others)
          ∙ apart_keys t u (Some item) (Some held) (item_at object others)
          (λ it that. let one = eqb-true item.object object it in let other = eqb-true held.object object that in absurd (omega arith))
    ] refl

-- what holds of an item and of others holds once it is put
All-put_item : (P : Item → Type 0) (item : Item) (items : List Item) → P item → All P items → All P (put_item item items)
All-put_item P item [] one all = All-cons P item [] one all
All-put_item P item (held ∷ others) one all =
    elim (nat_cmp item.object held.object) as (λ r. All P (match_ordering r (item ∷ held ∷ others) (item ∷ others) (held ∷ put_item item others))) [
      | Less ↦ All-cons P item (held ∷ others) one all
      | Equal ↦ All-cons P item others one (All-tail P held others all)
      | Greater ↦ All-cons P held (put_item item others) (All-head P held others all) (All-put_item P item others one (All-tail P held others all))
    ]

-- the ids of the items still rise
pub put_item-rises : (item : Item) (items : List Item) → IsRising items → IsRising (put_item item items)
put_item-rises item [] rising = λ i j d below within. absurd (omega arith)
put_item-rises item (held ∷ others) rising =
    let above : All (λ (other : Item). held.object < other.object) others = λ k d within. rising 0 (suc k) d (omega arith) (omega arith) in
    let rest : IsRising others = λ i j d below within. rising (suc i) (suc j) d (omega arith) (omega arith) in
    let rises = λ (a : Item) (b : Item). a.object < b.object in
    elim (nat_cmp item.object held.object) as (λ r. nat_cmp item.object held.object ≡ r → IsRising (match_ordering r (item ∷ held ∷ others) (item ∷ others) (held ∷ put_item item others))) [
      | Less ↦ λ e.
          let below : item.object < held.object = ranked item.object held.object Less (sym e) in
          AllPairs-cons rises item (held ∷ others)
          (All-cons (λ (other : Item). item.object < other.object) held others below
          (All-weaker (λ (other : Item). held.object < other.object) (λ (other : Item). item.object < other.object) (λ other h. omega arith) others above))
          rising
      | Equal ↦ λ e.
          let same : item.object ≡ held.object = ranked item.object held.object Equal (sym e) in
          AllPairs-cons rises item others (All-weaker (λ (other : Item). held.object < other.object) (λ (other : Item). item.object < other.object) (λ other h. omega arith) others above) rest
      | Greater ↦ λ e.
          AllPairs-cons rises held (put_item item others)
          (All-put_item (λ (other : Item). held.object < other.object) item others (ranked item.object held.object Greater (sym e)) above)
          (put_item-rises item others rest)
    ] refl

-- items whose ids rise are of different objects
pub AreDistinct-from_rising : (items : List Item) → IsRising items → AreDistinct items
AreDistinct-from_rising items rising = λ i j d below within same. absurd (omega (arith, rising i j d below within))

-- an object's item is among the items
pub Contains-from_item_at : (object : ℕ) (items : List Item) (item : Item) → item_at object items ≡ Some item → Contains items item × (item.object ≡ object)
Contains-from_item_at object [] item found = absurd (none-some item found)
Contains-from_item_at object (first ∷ rest) item found =
    elim (first.object == object) as (λ b. (first.object == object) ≡ b → cond b (Some first) (item_at object rest) ≡ Some item → Contains (first ∷ rest) item × (item.object ≡ object)) [
      | true ↦ λ test here.
          let same : first ≡ item = same_Some first item here in
          ((0, omega arith, same), ap (λ (i : Item). i.object) (sym same) ∙ eqb-true first.object object test)
      | false ↦ λ _ later.
          let rest_has = Contains-from_item_at object rest item later in
          ((suc rest_has.0.0, omega (arith, rest_has.0.1), rest_has.0.2), rest_has.1)
    ] refl found

-- the first item is the one of its object
first_of : (first : Item) (rest : List Item) (item : Item) → AreDistinct (first ∷ rest) → first.object ≡ item.object → Contains (first ∷ rest) item
    → first ≡ item
first_of first rest item apart same (zero, within, is) = is
first_of first rest item apart same (suc k, within, is) =
    absurd (AreDistinct-first first rest apart k item (omega arith) (same ∙ ap (λ (i : Item). i.object) (sym is)))

-- and each of the items, where they are of different objects, is its object's
pub item_at-from_Contains : (items : List Item) (item : Item) → AreDistinct items → Contains items item → item_at item.object items ≡ Some item
item_at-from_Contains [] item apart there = absurd (omega (arith, there.1))
item_at-from_Contains (first ∷ rest) item apart there =
    elim (first.object == item.object) as (λ b. (first.object == item.object) ≡ b → cond b (Some first) (item_at item.object rest) ≡ Some item) [
      | true ↦ λ test. ap (λ (i : Item). Some i) (first_of first rest item apart (eqb-true first.object item.object test) there)
      | false ↦ λ test.
          item_at-from_Contains rest item (AreDistinct-rest first rest apart)
          (Contains-tail first rest item (λ same. false≢true (sym test ∙ eq-eqb first.object item.object (ap (λ (i : Item). i.object) same))) there)
    ] refl

-- the order follows from what each object has
pub in_order-looked_up : (items others : List Item) → AreDistinct items → AreDistinct others → ((object : ℕ) → item_at object others ≡ item_at object items)
    → in_order others ≡ in_order items
in_order-looked_up items others apart apart' same =
    in_order-same items others apart apart' (λ item. (
      λ there. (Contains-from_item_at item.object items item (sym (same item.object) ∙ item_at-from_Contains others item apart' there)).0,
      λ there. (Contains-from_item_at item.object others item (same item.object ∙ item_at-from_Contains items item apart there)).0,
    ))

-- one item more at most
pub length-put_item : (item : Item) (items : List Item) → length (put_item item items) ≤ length items + 1
length-put_item item [] = omega arith
length-put_item item (held ∷ others) =
    elim (nat_cmp item.object held.object) as (λ r. length (match_ordering r (item ∷ held ∷ others) (item ∷ others) (held ∷ put_item item others)) ≤ length (held ∷ others) + 1) [
      | Less ↦ omega arith
      | Equal ↦ omega arith
      | Greater ↦ omega (arith, length-put_item item others)
    ]
