-- Where the algorithm without random access is quiet, its first k are a top k.
use Rattle.std.proofs.Common.{◌≡◌, ◌≢◌, ◌≤◌, ◌<◌, ◌==◌, ◌-◌, ℕ, Bool, true, false, not, ◌||◌, List, [], ◌∷◌, length, map, min, Option, Some, None, refl, sym, ap, ◌∙◌, arith, get_or, inl, inr, leb, subst, eqb-true}
use Rattle.std.specs.List.{AllPairs, Contains, list_any, list_all, slice_get}
use Rattle.std.proofs.lemmas.List.Elements.{All-contains}
use Rattle.std.proofs.lemmas.List.Sums.{AllPass-from_list_all}
use Rattle.std.proofs.lemmas.Bool.{cases_lt, or_cases, and_parts, leb-true, ltb-false}
use Rattle.std.proofs.lemmas.List.{get_or-take, length-take-le, length-map, get_or-map}
use Rattle.std.proofs.lemmas.Option.{slice_get_within, get_or_from_slice_get}
use Rattle.std.specs.Option.{option_map}
use Rattle.ranked_list.specs.declared.row.Row.{Row}
use Rattle.ranked_list.specs.declared.item.Item.{Item}
use Rattle.topk_theory.specs.Order.{IsBefore, IsFirstK, AreDistinct, in_order, first_k, kth_low}
use Rattle.topk_theory.specs.declared.access.Access.{Access}
use Rattle.topk_theory.specs.Aggregate.{IsTop, objects_of, aggregate}
use Rattle.topk_theory.specs.Transcript.{seen_objects}
use Rattle.topk_theory.specs.Bounds.{bounded, low, high}
use Rattle.topk_theory.specs.NoRandom.{seen_items, first_seen, is_viable, is_quiet, exceeds}
use Rattle.topk_theory.proofs.AgreementLists.{contains_map_from, all_from_members, contains_here, contains_there}

-- the bounds hold of each object of the table
pub record BoundsHold (V : List ℕ → ℕ) (m : ℕ) (D : List (List Row)) (A : List Access) : Type 0 where
  pub below : (object : ℕ) → Contains (objects_of D) object → low V m A object ≤ aggregate V D object
  pub above : (object : ℕ) → Contains (objects_of D) object → aggregate V D object ≤ high V m A object

pub all_passes : {X : Type 0} (p : X → Bool) (xs : List X) (x : X) → list_all p xs ≡ true → Contains xs x → p x ≡ true
all_passes p xs x h c = All-contains (λ y. p y ≡ true) xs x (AllPass-from_list_all p xs h) c

-- who stands before another has no smaller a low
pub before_low : (a b : Item) → IsBefore a b → b.low ≤ a.low
before_low a b (inl h) = omega arith
before_low a b (inr h) = let e = h.0 in omega arith

-- in order, each item up to a place has no smaller a low than the one there
order_falls : (items : List Item) (i j : ℕ) (d : Item) → AllPairs IsBefore items → i ≤ j → j < length items → (get_or items j d).low ≤ (get_or items i d).low
order_falls items i j d ordered le in_range =
    elim (cases_lt i j) [ inl lt ↦ before_low _ _ (ordered i j d lt in_range) | inr ge ↦ (let e : i ≡ j = omega arith in rw e (omega arith)) ]

mapped_some : {X : Type 0} (f : X → ℕ) (o : Option X) (b : ℕ) → option_map f o ≡ Some b → (x : X) × (o ≡ Some x) × (f x ≡ b)
mapped_some f None b e = absurd (let h : ⊥ = cc in h)
mapped_some f (Some x) b e = (x, refl, (let h : f x ≡ b = cc in h))

-- the low of the k-th is no greater than that of any of the first k
kth_low_least : (k : ℕ) (items : List Item) (inside : Item) (bound : ℕ) → 1 ≤ k → AllPairs IsBefore (first_k k items) → Contains (first_k k items) inside
    → kth_low k items ≡ Some bound → bound ≤ inside.low
kth_low_least k items inside bound one ordered c e =
    let found = mapped_some (λ (item : Item). item.low) (slice_get (in_order items) (k - 1)) bound e in
    let within = slice_get_within (in_order items) (k - 1) found.0 found.1 in
    let last : get_or (first_k k items) (k - 1) inside ≡ found.0 = get_or-take k (in_order items) (k - 1) inside (omega arith) ∙ get_or_from_slice_get (in_order items) (k - 1) found.0 inside found.1 in
    let size : length (first_k k items) ≡ k = length-take-le k (in_order items) (omega arith) in
    let falls = order_falls (first_k k items) c.0 (k - 1) inside ordered (omega arith) (omega arith) in
    let a : (get_or (first_k k items) (k - 1) inside).low ≡ bound = ap (λ (item : Item). item.low) last ∙ found.2 in
    let b : (get_or (first_k k items) c.0 inside).low ≡ inside.low = ap (λ (item : Item). item.low) c.2 in
    omega arith

-- the objects of items are those that they were made of
pub object_of_seen : (V : List ℕ → ℕ) (m : ℕ) (A : List Access) (item : Item) → Contains (seen_items V m A) item
    → Contains (seen_objects A) item.object × (item ≡ bounded V m A item.object)
object_of_seen V m A item c =
    let from = contains_map_from (bounded V m A) (seen_objects A) item c in
    let same : item.object ≡ from.0 = ap (λ (i : Item). i.object) (sym from.2) in
    (subst (λ o. Contains (seen_objects A) o) (sym same) from.1, sym from.2 ∙ ap (bounded V m A) (sym same))

not_true : (b : Bool) → not b ≡ true → b ≡ false
not_true true e = sym e
not_true false e = refl

pub has_item : (object : ℕ) (items : List Item) → list_any (λ (item : Item). item.object == object) items ≡ true
    → Contains (map (λ (item : Item). item.object) items) object
has_item object [] e = absurd (let h : ⊥ = cc in h)
has_item object (item ∷ items) e =
    elim (or_cases (item.object == object) (list_any (λ (i : Item). i.object == object) items) e) [
      | inl t ↦ subst (λ o. Contains (item.object ∷ map (λ (i : Item). i.object) items) o) (eqb-true item.object object t) (contains_here item.object (map (λ (i : Item). i.object) items))
      | inr t ↦ contains_there item.object (map (λ (i : Item). i.object) items) object (has_item object items t)
    ]

-- what isn't a member of the first k isn't viable where all is quiet
outside_quiet : (V : List ℕ → ℕ) (k m : ℕ) (D : List (List Row)) (A : List Access) (object : ℕ) → is_quiet V k m D A ≡ true → Contains (objects_of D) object
    → (¬ Contains (map (λ (item : Item). item.object) (first_seen V k m A)) object) → is_viable V k m A object ≡ false
outside_quiet V k m D A object quiet here outside =
    let each = (and_parts (leb k (length (seen_objects A))) (list_all (λ o. list_any (λ (item : Item). item.object == o) (first_seen V k m A) || not (is_viable V k m A o)) (objects_of D)) quiet).1 in
    let passes = all_passes (λ o. list_any (λ (item : Item). item.object == o) (first_seen V k m A) || not (is_viable V k m A o)) (objects_of D) object each here in
    elim (or_cases (list_any (λ (item : Item). item.object == object) (first_seen V k m A)) (not (is_viable V k m A object)) passes) [
      | inl t ↦ absurd (outside (has_item object (first_seen V k m A) t))
      | inr t ↦ not_true (is_viable V k m A object) t
    ]

-- a high that no viable object has is no greater than the k-th low
not_exceeded : (found : Option ℕ) (number : ℕ) → exceeds found number ≡ false → (bound : ℕ) × (found ≡ Some bound) × (number ≤ bound)
not_exceeded None number e = absurd (let h : ⊥ = cc in h)
not_exceeded (Some bound) number e = (bound, refl, ltb-false bound number e)

distinct_objects : (items : List Item) → AreDistinct items → AllPairs (λ (y : ℕ) (z : ℕ). y ≢ z) (map (λ (item : Item). item.object) items)
distinct_objects items apart = λ i j d lt in_range same.
    let size : length (map (λ (item : Item). item.object) items) ≡ length items = length-map items (λ (item : Item). item.object) in
    let none : Item = record { object = d; low = 0; high = 0 } in
    let at_i : get_or (map (λ (item : Item). item.object) items) i d ≡ (get_or items i none).object = get_or-map (λ (item : Item). item.object) items i none d (omega arith) in
    let at_j : get_or (map (λ (item : Item). item.object) items) j d ≡ (get_or items j none).object = get_or-map (λ (item : Item). item.object) items j none d (omega arith) in
    apart i j none lt (omega arith) (sym at_i ∙ same ∙ at_j)

-- where all is quiet and the bounds hold, the first k are a top k of the table
pub quiet_top : (V : List ℕ → ℕ) (k m : ℕ) (D : List (List Row)) (A : List Access) → 1 ≤ k → BoundsHold V m D A
    → ((object : ℕ) → Contains (seen_objects A) object → Contains (objects_of D) object) → AreDistinct (first_seen V k m A)
    → IsFirstK k (seen_items V m A) (first_seen V k m A) → is_quiet V k m D A ≡ true → IsTop V k D (map (λ (item : Item). item.object) (first_seen V k m A))
quiet_top V k m D A one hold seen distinct first quiet =
    let enough = leb-true k (length (seen_objects A)) (and_parts (leb k (length (seen_objects A))) (list_all (λ o. list_any (λ (item : Item). item.object == o) (first_seen V k m A) || not (is_viable V k m A o)) (objects_of D)) quiet).0 in
    let made : length (seen_items V m A) ≡ length (seen_objects A) = length-map (seen_objects A) (bounded V m A) in
    let size : length (map (λ (item : Item). item.object) (first_seen V k m A)) ≡ length (first_seen V k m A) = length-map (first_seen V k m A) (λ (item : Item). item.object) in
    let inside_of = λ (item : Item) (c : Contains (first_seen V k m A) item). object_of_seen V m A item (All-contains (Contains (seen_items V m A)) (first_seen V k m A) item first.held c) in
    record {
      sized = (let e : length (first_seen V k m A) ≡ min k (length (seen_items V m A)) = first.size in omega arith);
      distinct = distinct_objects (first_seen V k m A) distinct;
      members = all_from_members (Contains (objects_of D)) _ (λ o c.
          let from = contains_map_from (λ (item : Item). item.object) (first_seen V k m A) o c in
          subst (λ p. Contains (objects_of D) p) from.2 (seen from.0.object (inside_of from.0 from.1).0));
      unbeaten = λ inside outside c here out.
          let from = contains_map_from (λ (item : Item). item.object) (first_seen V k m A) inside c in
          let as_seen = inside_of from.0 from.1 in
          let idle = not_exceeded (kth_low k (seen_items V m A)) (high V m A outside) (outside_quiet V k m D A outside quiet here out) in
          let least = kth_low_least k (seen_items V m A) from.0 idle.0 one first.ordered from.1 idle.1 in
          let low_is : from.0.low ≡ low V m A inside = ap (λ (item : Item). item.low) as_seen.1 ∙ ap (λ o. low V m A o) from.2 in
          let up = hold.above outside here in
          let down = hold.below inside (subst (λ p. Contains (objects_of D) p) from.2 (seen from.0.object as_seen.0)) in
          omega (arith, up, down, least, idle.2);
    }
