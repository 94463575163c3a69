-- Items by rising id: how they follow from the ranks of the places.
use Rattle.std.proofs.Common.{◌≡◌, ◌≢◌, ◌==◌, inl, inr, ℕ, zero, suc, ◌+◌, ◌<◌, true, false, cond, List, [], ◌∷◌, Option, Some, None, ◌++◌, length, set, take, is_some, refl, sym, ap, ◌∙◌, subst, arith}
use Rattle.std.specs.declared.cmp.Ordering.TheVariants.{Less, Equal, Greater}
use Rattle.std.specs.Ordering.{nat_cmp, match_ordering}
use Rattle.std.specs.List.{All, Contains, count_by}
use Rattle.std.specs.List.Sorted.{IsPermutation}
use Rattle.std.proofs.lemmas.Bool.{cases_order, eqb-true, eq-eqb, ne_eqb, cases_Bool}
use Rattle.std.proofs.lemmas.Cmp.{ranked}
use Rattle.std.proofs.lemmas.List.{take_more, append-nil}
use Rattle.std.proofs.lemmas.List.Kept.{AllPairs-cons}
use Rattle.std.proofs.lemmas.List.Sorted.{IsPermutation-refl, IsPermutation-sym, IsPermutation-cons, IsPermutation-trans, IsPermutation-middle, All-permutation}
use Rattle.std.proofs.lemmas.List.Sums.{sum_by-cons}
use Rattle.std.proofs.lemmas.Option.{none-some, same_Some}
use Rattle.ranked_list.specs.declared.item.Item.{Item}
use Rattle.containers.specs.Ranks.{rank_at}
use Rattle.topk_theory.specs.Order.{AreDistinct}
use Rattle.topk_theory.proofs.InOrder.{AreDistinct-rest, AreDistinct-first}
use Rattle.topk_theory.proofs.AgreementLists.{contains_nil, contains_here, contains_there, contains_cases, all_from_members}
use Rattle.machine_base.specs.declared.rank.Rank.{Rank}
use Rattle.machine_base.specs.Rank.{item_of}
use Rattle.machine_base.specs.Held.{IsRising, risen, item_at}
use Rattle.ranked_list.specs.Items.{put_item}
use Rattle.machine_base.specs.Kept.{items_in}
use Rattle.machine_base.proofs.HeldLaws.{item_at-put_item, put_item-rises}
use Rattle.machine_base.proofs.Halving.{one}

-- ---- items by rising id
pub risen-rises : (items : List Item) → IsRising (risen items)
risen-rises [] = λ i j d below within. absurd (omega arith)
risen-rises (item ∷ items) = put_item-rises item (risen items) (risen-rises items)

pub item_at-risen : (object : ℕ) (items : List Item) → item_at object (risen items) ≡ item_at object items
item_at-risen object [] = refl
item_at-risen object (item ∷ items) = item_at-put_item object item (risen items) ∙ ap (cond (item.object == object) (Some item)) (item_at-risen object items)

first_rises : (item : Item) (items : List Item) → IsRising (item ∷ items) → All (λ (other : Item). item.object < other.object) items
first_rises item items rising = λ k d within. rising 0 (suc k) d (omega arith) (omega arith)

rest_rises : (item : Item) (items : List Item) → IsRising (item ∷ items) → IsRising items
rest_rises item items rising = λ i j d below within. rising (suc i) (suc j) d (omega arith) (omega arith)

-- an object below each of rising items has none of them
none_below : (object : ℕ) (items : List Item) → All (λ (other : Item). object < other.object) items → item_at object items ≡ None
none_below object [] above = refl
none_below object (item ∷ items) above =
    let here : object < item.object = above 0 item (omega arith) in
    let apart : item.object ≢ object = λ e. absurd (omega arith) in
    ap (λ b. cond b (Some item) (item_at object items)) (ne_eqb item.object object apart)
    ∙ none_below object items (λ k d within. above (suc k) d (omega arith))

its_own : (item : Item) (items : List Item) → item_at item.object (item ∷ items) ≡ Some item
its_own item items = ap (λ b. cond b (Some item) (item_at item.object items)) (eq-eqb item.object item.object refl)

all_above : (object : ℕ) (item : Item) (items : List Item) → object < item.object → IsRising (item ∷ items)
    → All (λ (other : Item). object < other.object) (item ∷ items)
all_above object item items below rising zero d within = below
all_above object item items below rising (suc k) d within = let above = first_rises item items rising k d (omega arith) in omega arith

-- rising items in which each object has the same are one list
pub rising_one : (xs ys : List Item) → IsRising xs → IsRising ys → ((object : ℕ) → item_at object xs ≡ item_at object ys) → xs ≡ ys
rising_one [] [] up up' same = refl
rising_one [] (y ∷ ys) up up' same = absurd (none-some y (same y.object ∙ its_own y ys))
rising_one (x ∷ xs) [] up up' same = absurd (none-some x (sym (same x.object) ∙ its_own x xs))
rising_one (x ∷ xs) (y ∷ ys) up up' same =
    elim (cases_order x.object y.object) as (λ _. x ∷ xs ≡ y ∷ ys) [
      | inl e ↦
          let first : x ≡ y = same_Some x y (sym (its_own x xs) ∙ same x.object ∙ ap (λ (o : ℕ). item_at o (y ∷ ys)) e ∙ its_own y ys) in
          ap (λ (z : Item). z ∷ xs) first ∙ ap (λ (zs : List Item). y ∷ zs) (rising_one xs ys (rest_rises x xs up) (rest_rises y ys up') (λ object. behind object e))
      | inr apart ↦ elim apart as (λ _. x ∷ xs ≡ y ∷ ys) [
        | inl less ↦ absurd (none-some x (sym (none_below x.object (y ∷ ys) (all_above x.object y ys less up')) ∙ sym (same x.object) ∙ its_own x xs))
        | inr more ↦ absurd (none-some y (sym (none_below y.object (x ∷ xs) (all_above y.object x xs more up)) ∙ same y.object ∙ its_own y ys))
      ]
    ]
  where
    behind : (object : ℕ) → x.object ≡ y.object → item_at object xs ≡ item_at object ys
    behind object e =
        elim (cases_Bool (x.object == object)) as (λ _. item_at object xs ≡ item_at object ys) [
          | inl here ↦
              let is = eqb-true x.object object here in
              let above : All (λ (other : Item). object < other.object) xs = λ k d within. let a = first_rises x xs up k d within in omega arith in
              let above' : All (λ (other : Item). object < other.object) ys = λ k d within. let a = first_rises y ys up' k d within in omega arith in
              none_below object xs above ∙ sym (none_below object ys above')
          | inr other ↦
              sym (ap (λ b. cond b (Some x) (item_at object xs)) other) ∙ same object
              ∙ ap (λ b. cond b (Some y) (item_at object ys)) (ap (λ (o : ℕ). o == object) (sym e) ∙ other)
        ]

-- ---- the same items
put_permutes : (item : Item) (items : List Item) → All (λ (other : Item). item.object ≢ other.object) items → IsPermutation (item ∷ items) (put_item item items)
put_permutes item [] apart = IsPermutation-refl (item ∷ [])
put_permutes item (held ∷ others) apart =
    elim (nat_cmp item.object held.object) as (λ r. nat_cmp item.object held.object ≡ r → IsPermutation (item ∷ held ∷ others) (match_ordering r (item ∷ held ∷ others) (item ∷ others) (held ∷ put_item item others))) [
      | Less ↦ λ _. IsPermutation-refl (item ∷ held ∷ others)
      | Equal ↦ λ e. absurd (apart 0 held (omega arith) (ranked item.object held.object Equal (sym e)))
      | Greater ↦ λ _.
          IsPermutation-trans (item ∷ held ∷ others) (held ∷ item ∷ others) (held ∷ put_item item others)
          (IsPermutation-sym (held ∷ item ∷ others) (item ∷ held ∷ others) (IsPermutation-middle (held ∷ []) item others))
          (IsPermutation-cons held (item ∷ others) (put_item item others) (put_permutes item others (λ k d within. apart (suc k) d (omega arith))))
    ] refl

pub risen-permutes : (items : List Item) → AreDistinct items → IsPermutation items (risen items)
risen-permutes [] apart = IsPermutation-refl []
risen-permutes (item ∷ items) apart =
    let more = risen-permutes items (AreDistinct-rest item items apart) in
    IsPermutation-trans (item ∷ items) (item ∷ risen items) (put_item item (risen items))
    (IsPermutation-cons item items (risen items) more)
    (put_permutes item (risen items) (All-permutation (λ (other : Item). item.object ≢ other.object) items (risen items) more (AreDistinct-first item items apart)))

-- ---- the items of the places
pub in_items : (ranks : List (Option Rank)) (place : ℕ) (rank : Rank) → rank_at ranks place ≡ Some rank → Contains (items_in ranks) (item_of rank)
in_items [] place rank at = absurd (none-some rank at)
in_items (None ∷ ranks) zero rank at = absurd (none-some rank at)
in_items (None ∷ ranks) (suc place) rank at = in_items ranks place rank at
in_items (Some first ∷ ranks) zero rank at = subst (λ (r : Rank). Contains (item_of first ∷ items_in ranks) (item_of r)) (same_Some first rank at) (contains_here (item_of first) (items_in ranks))
in_items (Some first ∷ ranks) (suc place) rank at = contains_there (item_of first) (items_in ranks) (item_of rank) (in_items ranks place rank at)

pub from_items : (ranks : List (Option Rank)) (item : Item) → Contains (items_in ranks) item
    → (place : ℕ) × (rank : Rank) × (rank_at ranks place ≡ Some rank) × (item_of rank ≡ item)
from_items [] item there = absurd (contains_nil item there)
from_items (None ∷ ranks) item there =
    let found = from_items ranks item there in
    (suc found.0, found.1, found.2, found.3)
from_items (Some first ∷ ranks) item there =
    elim (contains_cases (item_of first) (items_in ranks) item there) as (λ _. (place : ℕ) × (rank : Rank) × (rank_at (Some first ∷ ranks) place ≡ Some rank) × (item_of rank ≡ item)) [
      | inl e ↦ (0, first, refl, e)
      | inr later ↦
          let found = from_items ranks item later in
          (suc found.0, found.1, found.2, found.3)
    ]

pub length-items_in : (ranks : List (Option Rank)) → length (items_in ranks) ≡ count_by is_some ranks
length-items_in [] = refl
length-items_in (None ∷ ranks) = omega (arith, length-items_in ranks, sum_by-cons (λ (r : Option Rank). one r) None ranks)
length-items_in (Some first ∷ ranks) = omega (arith, length-items_in ranks, sum_by-cons (λ (r : Option Rank). one r) (Some first) ranks)

-- no object has two places
abbrev pub HaveOnePlace : List (Option Rank) → Type 0
HaveOnePlace ranks = (p q : ℕ) (a b : Rank) → rank_at ranks p ≡ Some a → rank_at ranks q ≡ Some b → a.object ≡ b.object → p ≡ q

pub one_place_rest : (first : Option Rank) (ranks : List (Option Rank)) → HaveOnePlace (first ∷ ranks) → HaveOnePlace ranks
one_place_rest first ranks apart = λ p q a b at at' same. let e = apart (suc p) (suc q) a b at at' same in omega arith

pub items_distinct : (ranks : List (Option Rank)) → HaveOnePlace ranks → AreDistinct (items_in ranks)
items_distinct [] apart = λ i j d below within. absurd (omega arith)
items_distinct (None ∷ ranks) apart = items_distinct ranks (one_place_rest None ranks apart)
items_distinct (Some first ∷ ranks) apart =
    AllPairs-cons (λ (a : Item) (b : Item). a.object ≢ b.object) (item_of first) (items_in ranks)
    (all_from_members (λ (b : Item). first.object ≢ b.object) (items_in ranks) (λ item there.
    let found = from_items ranks item there in
    λ same. let e = apart 0 (suc found.0) first found.1 refl found.2 (same ∙ sym (ap (λ (i : Item). i.object) found.3)) in absurd (omega arith)))
    (items_distinct ranks (one_place_rest (Some first) ranks apart))

-- ---- one place's rank is written
-- an object that no place has has no item
no_item : (object : ℕ) (ranks : List (Option Rank)) → ((place : ℕ) (rank : Rank) → rank_at ranks place ≡ Some rank → rank.object ≢ object)
    → item_at object (items_in ranks) ≡ None
no_item object [] apart = refl
no_item object (None ∷ ranks) apart = no_item object ranks (λ place. apart (suc place))
no_item object (Some first ∷ ranks) apart =
    ap (λ b. cond b (Some (item_of first)) (item_at object (items_in ranks))) (ne_eqb first.object object (apart 0 first refl)) ∙ no_item object ranks (λ place. apart (suc place))

-- the ranks before and after: the place had none or one of the same object, and no other place has this object
pub record MayHave (ranks : List (Option Rank)) (place : ℕ) (rank : Rank) : Type 0 where
  pub within : place < length ranks
  pub same : (old : Rank) → rank_at ranks place ≡ Some old → old.object ≡ rank.object
  pub others : (other : ℕ) (another : Rank) → other ≢ place → rank_at ranks other ≡ Some another → another.object ≢ rank.object

may_have_rest : (first : Option Rank) (ranks : List (Option Rank)) (place : ℕ) (rank : Rank) → MayHave (first ∷ ranks) (suc place) rank
    → MayHave ranks place rank
may_have_rest first ranks place rank may = record {
  within = let w = may.within in omega arith;
  same = λ old at. may.same old at;
  others = λ other another apart at. let apart' : suc other ≢ suc place = λ e. apart (omega arith) in may.others (suc other) another apart' at;
}

pub item_at-written : (object : ℕ) (ranks : List (Option Rank)) (place : ℕ) (rank : Rank) → MayHave ranks place rank
    → item_at object (items_in (set ranks place (Some rank))) ≡ cond (rank.object == object) (Some (item_of rank)) (item_at object (items_in ranks))
item_at-written object [] place rank may = absurd (let w = may.within in omega arith)
item_at-written object (None ∷ ranks) zero rank may = refl
item_at-written object (Some first ∷ ranks) zero rank may =
    let same : first.object ≡ rank.object = may.same first refl in
    elim (rank.object == object) as (λ b. (rank.object == object) ≡ b → cond b (Some (item_of rank)) (item_at object (items_in ranks)) ≡ cond b (Some (item_of rank)) (cond (first.object == object) (Some (item_of first)) (item_at object (items_in ranks)))) [
      | true ↦ λ _. refl
      | false ↦ λ e. sym (ap (λ b. cond b (Some (item_of first)) (item_at object (items_in ranks))) (ap (λ (o : ℕ). o == object) same ∙ e))
    ] refl
item_at-written object (None ∷ ranks) (suc place) rank may = item_at-written object ranks place rank (may_have_rest None ranks place rank may)
item_at-written object (Some first ∷ ranks) (suc place) rank may =
    let apart : 0 ≢ suc place = λ e. absurd (omega arith) in
    let other : first.object ≢ rank.object = may.others 0 first apart refl in
    let more = item_at-written object ranks place rank (may_have_rest (Some first) ranks place rank may) in
    ap (cond (first.object == object) (Some (item_of first))) more
    ∙ elim (first.object == object) as (λ b. (first.object == object) ≡ b → cond b (Some (item_of first)) (cond (rank.object == object) (Some (item_of rank)) (item_at object (items_in ranks))) ≡ cond (rank.object == object) (Some (item_of rank)) (cond b (Some (item_of first)) (item_at object (items_in ranks)))) [
      | true ↦ λ e.
          let is = eqb-true first.object object e in
          let not : rank.object ≢ object = λ e'. other (is ∙ sym e') in
          sym (ap (λ b. cond b (Some (item_of rank)) (Some (item_of first))) (ne_eqb rank.object object not))
      | false ↦ λ _. refl
    ] refl

-- a rank that is written puts its item
pub risen-written : (ranks : List (Option Rank)) (place : ℕ) (rank : Rank) → MayHave ranks place rank
    → risen (items_in (set ranks place (Some rank))) ≡ put_item (item_of rank) (risen (items_in ranks))
risen-written ranks place rank may =
    rising_one (risen (items_in (set ranks place (Some rank)))) (put_item (item_of rank) (risen (items_in ranks)))
    (risen-rises (items_in (set ranks place (Some rank)))) (put_item-rises (item_of rank) (risen (items_in ranks)) (risen-rises (items_in ranks)))
    (λ object.
    item_at-risen object (items_in (set ranks place (Some rank))) ∙ item_at-written object ranks place rank may
    ∙ ap (cond (rank.object == object) (Some (item_of rank))) (sym (item_at-risen object (items_in ranks)))
    ∙ sym (item_at-put_item object (item_of rank) (risen (items_in ranks))))

-- ---- items of a front
items_in-append : (ranks others : List (Option Rank)) → items_in (ranks ++ others) ≡ items_in ranks ++ items_in others
items_in-append [] others = refl
items_in-append (None ∷ ranks) others = items_in-append ranks others
items_in-append (Some first ∷ ranks) others = ap (λ (items : List Item). item_of first ∷ items) (items_in-append ranks others)

pub items_more : (ranks : List (Option Rank)) (place : ℕ) (rank : Rank) → place < length ranks → rank_at ranks place ≡ Some rank
    → items_in (take (place + 1) ranks) ≡ items_in (take place ranks) ++ item_of rank ∷ []
items_more ranks place rank within at =
    ap items_in (take_more ranks place None within) ∙ items_in-append (take place ranks) (rank_at ranks place ∷ [])
    ∙ ap (λ (r : Option Rank). items_in (take place ranks) ++ items_in (r ∷ [])) at

pub items_same : (ranks : List (Option Rank)) (place : ℕ) → place < length ranks → rank_at ranks place ≡ None
    → items_in (take (place + 1) ranks) ≡ items_in (take place ranks)
items_same ranks place within at =
    ap items_in (take_more ranks place None within) ∙ items_in-append (take place ranks) (rank_at ranks place ∷ [])
    ∙ ap (λ (r : Option Rank). items_in (take place ranks) ++ items_in (r ∷ [])) at ∙ append-nil (items_in (take place ranks))
