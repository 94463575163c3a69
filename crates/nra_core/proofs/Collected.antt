-- The items that are collected at the end, and their order.
use Rattle.std.proofs.Common.{◌≡◌, ◌≢◌, ℕ, zero, suc, ◌+◌, ◌<◌, ◌≤◌, List, [], ◌∷◌, ◌++◌, length, map, take, get_or, Option, Some, nat_le, cond, refl, sym, ap, subst, ◌∙◌, arith, append-nil}
use Rattle.std.specs.List.{slice_get}
use Rattle.std.proofs.lemmas.Bool.{le-leb, lt-leb}
use Rattle.std.proofs.lemmas.List.{take_more}
use Rattle.std.proofs.lemmas.List.Elements.{filter-append}
use Rattle.std.proofs.lemmas.List.Kept.{AllPairs-filter}
use Rattle.std.proofs.lemmas.Option.{same_Some, slice_get_within, slice_get-get_or}
use Rattle.ranked_list.specs.declared.item.Item.{Item}
use Rattle.topk_theory.specs.declared.access.Access.{Access}
use Rattle.topk_theory.specs.Order.{AreDistinct, in_order, first_k}
use Rattle.topk_theory.specs.Transcript.{seen_objects}
use Rattle.topk_theory.specs.Bounds.{bounded, low, high}
use Rattle.topk_theory.specs.NoRandom.{seen_items}
use Rattle.topk_theory.proofs.InOrder.{length-in_order}
use Rattle.topk_theory.proofs.NoRandomLaws.{items_distinct}
use Rattle.containers.specs.Slots.{Slots}
use Rattle.nra_core.specs.Late.{at_least}
use Rattle.nra_core.proofs.EndingLaws.{first_of_kept}
use Rattle.nra_core.specs.LatePlaces.{IsLate, HasLeast}
use Rattle.nra_core.proofs.Least.{kth_is_least}

-- those of the first seen objects
abbrev pub collected : (List ℕ → ℕ) → ℕ → List Access → ℕ → ℕ → List Item
collected V m A bound place = at_least bound (map (bounded V m A) (take place (seen_objects A)))

kept_one : (bound : ℕ) (item : Item) → bound ≤ item.low → at_least bound (item ∷ []) ≡ item ∷ []
kept_one bound item upto = ap (λ b. cond b (item ∷ []) []) (le-leb bound item.low upto)

kept_none : (bound : ℕ) (item : Item) → item.low < bound → at_least bound (item ∷ []) ≡ []
kept_none bound item less = ap (λ b. cond b (item ∷ []) []) (lt-leb bound item.low less)

map_more : {X Y : Type 0} (f : X → Y) (xs : List X) (x : X) → map f (xs ++ x ∷ []) ≡ map f xs ++ f x ∷ []
map_more f [] x = refl
map_more f (y ∷ xs) x = ap (λ ys. f y ∷ ys) (map_more f xs x)

one_more : (V : List ℕ → ℕ) (m : ℕ) (A : List Access) (bound place object : ℕ) → slice_get (seen_objects A) place ≡ Some object
    → collected V m A bound (place + 1) ≡ collected V m A bound place ++ at_least bound (bounded V m A object ∷ [])
one_more V m A bound place object at =
    let seen = seen_objects A in
    let lt = slice_get_within seen place object at in
    let is : get_or seen place 0 ≡ object = same_Some (get_or seen place 0) object (sym (slice_get-get_or seen place 0 lt) ∙ at) in
    let taken : take (place + 1) seen ≡ take place seen ++ object ∷ [] = take_more seen place 0 lt ∙ ap (λ x. take place seen ++ x ∷ []) is in
    ap (λ xs. at_least bound (map (bounded V m A) xs)) taken
    ∙ ap (λ xs. at_least bound xs) (map_more (bounded V m A) (take place seen) object)
    ∙ filter-append (λ (item : Item). nat_le bound item.low) (map (bounded V m A) (take place seen)) (bounded V m A object ∷ [])

pub one_collected : (V : List ℕ → ℕ) (m : ℕ) (A : List Access) (bound place object low_now high_now : ℕ) (before after : List Item)
    → slice_get (seen_objects A) place ≡ Some object
    → low_now ≡ low V m A object → high_now ≡ high V m A object → bound ≤ low_now → before ≡ collected V m A bound place
    → after ≡ before ++ record { object = object; low = low_now; high = high_now } ∷ [] → after ≡ collected V m A bound (place + 1)
one_collected V m A bound place object low_now high_now before after at low_is high_is upto before_is after_is =
    after_is
    ∙ ap (λ (l : ℕ). before ++ record { object = object; low = l; high = high_now } ∷ []) low_is
    ∙ ap (λ (h : ℕ). before ++ record { object = object; low = low V m A object; high = h } ∷ []) high_is
    ∙ ap (λ items. items ++ bounded V m A object ∷ []) before_is
    ∙ ap (λ items. collected V m A bound place ++ items) (sym (kept_one bound (bounded V m A object) (omega arith)))
    ∙ sym (one_more V m A bound place object at)

pub none_collected : (V : List ℕ → ℕ) (m : ℕ) (A : List Access) (bound place object low_now : ℕ) (items : List Item)
    → slice_get (seen_objects A) place ≡ Some object
    → low_now ≡ low V m A object → low_now < bound → items ≡ collected V m A bound place → items ≡ collected V m A bound (place + 1)
none_collected V m A bound place object low_now items at low_is less items_are =
    items_are
    ∙ sym (append-nil (collected V m A bound place))
    ∙ ap (λ more. collected V m A bound place ++ more) (sym (kept_none bound (bounded V m A object) (omega arith)))
    ∙ sym (one_more V m A bound place object at)

pub distinct_collected : (V : List ℕ → ℕ) (m : ℕ) (A : List Access) (bound : ℕ) (items : List Item) → items ≡ at_least bound (seen_items V m A)
    → AreDistinct items
distinct_collected V m A bound items is =
    subst (λ (xs : List Item). AreDistinct xs) (sym is) (AllPairs-filter (λ (a : Item) (b : Item). a.object ≢ b.object) (λ (item : Item). nat_le bound item.low) (seen_items V m A) (items_distinct V m A))

pub first_collected : (V : List ℕ → ℕ) (k m : ℕ) (A : List Access) (first : Slots) (candidates : List (Option ℕ)) (bound : ℕ) (items ordered : List Item)
    → IsLate V k m A first candidates
    → HasLeast k first.entries bound → items ≡ at_least bound (seen_items V m A) → ordered ≡ in_order items → take k ordered ≡ first_k k (seen_items V m A)
first_collected V k m A first candidates bound items ordered late has items_are ordered_is =
    ap (take k) (ordered_is ∙ ap (λ xs. in_order xs) items_are)
    ∙ first_of_kept k (seen_items V m A) bound late.asked (items_distinct V m A) (kth_is_least V k m A first candidates bound late has)

take_front : (xs ys : List Item) (n : ℕ) → n ≡ length xs → take n (xs ++ ys) ≡ xs
take_front [] ys zero e = refl
take_front [] ys (suc n) e = absurd (omega arith)
take_front (x ∷ xs) ys zero e = absurd (omega arith)
take_front (x ∷ xs) ys (suc n) e = ap (λ zs. x ∷ zs) (take_front xs ys n (omega arith))

pub first_taken : (k len : ℕ) (items ordered rest : List Item) → ordered ≡ in_order items → length items ≡ len
    → take k (take len (ordered ++ rest)) ≡ take k ordered
first_taken k len items ordered rest is size =
    let sorted : length ordered ≡ length (in_order items) = ap length is in
    let same : length (in_order items) ≡ length items = length-in_order items in
    ap (take k) (take_front ordered rest len (omega arith))
