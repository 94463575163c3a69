-- Keys in strict order: where an added or a removed key leaves the one at a place, and what stands before and after it.
use Rattle.std.proofs.Common.{◌≡◌, ℕ, zero, suc, ◌+◌, ◌≤◌, Bool, true, false, not, cond, ◌&&◌, ◌||◌, List, [], ◌∷◌, length, take, drop, Some, refl, sym, ap, ◌∙◌, subst, arith}
use Rattle.std.specs.declared.cmp.Ordering.{Ordering}
use Rattle.std.specs.declared.cmp.Ordering.TheVariants.{Less, Equal, Greater}
use Rattle.std.specs.Ordering.{is_eq, is_lt, is_le, ordering_reverse, match_ordering}
use Rattle.std.specs.Cmp.{IsTotalOrder, tied_itself}
use Rattle.std.specs.List.{AllByRecursion, list_any, filter, slice_get}
use Rattle.std.specs.List.Sorted.{IsStrictlySortedBy}
use Rattle.std.specs.BTreeMap.{is_at}
use Rattle.std.specs.BTreeSet.{insert_key}
use Rattle.std.specs.Set.{remove_key}
use Rattle.std.proofs.lemmas.Bool.{false≢true}
use Rattle.std.proofs.lemmas.Option.{none-some, same_Some}
use Rattle.std.proofs.lemmas.Map.Keys.{sorted_head, sorted_tail}

module _ {K : Type 0} {R : K → K → Ordering} (o : IsTotalOrder R) where
  -- whether the key is one of them
  abbrev pub has : List K → K → Bool
  has ks q = list_any (is_at (R q)) ks

  pub greater_from_less : (x y : K) → R x y ≡ Less → R y x ≡ Greater
  greater_from_less x y h = o.antisymm y x ∙ ap ordering_reverse h

  pub less_from_greater : (x y : K) → R x y ≡ Greater → R y x ≡ Less
  less_from_greater x y h = o.antisymm y x ∙ ap ordering_reverse h

  -- what is before the first of them is before each
  pub less_than_all : (x y : K) (zs : List K) → R x y ≡ Less → AllByRecursion (λ z. R y z ≡ Less) zs → AllByRecursion (λ z. R x z ≡ Less) zs
  less_than_all x y [] h a = tt
  less_than_all x y (z ∷ zs) h a = (o.trans x y z h a.0, less_than_all x y zs h a.1)

  -- and so it is none of them
  pub has-before_all : (x : K) (zs : List K) → AllByRecursion (λ z. R x z ≡ Less) zs → has zs x ≡ false
  has-before_all x [] a = refl
  has-before_all x (z ∷ zs) a = ap (λ r. is_eq r || has zs x) a.0 ∙ has-before_all x zs a.1

  -- the key at a place is after the first of the keys before that place
  pub less_at : (k : K) (ks : List K) (i : ℕ) (p : K) → AllByRecursion (λ z. R k z ≡ Less) ks → slice_get ks i ≡ Some p → R k p ≡ Less
  less_at k [] i p a h = absurd (none-some p h)
  less_at k (z ∷ zs) zero p a h = subst (λ (y : K). R k y ≡ Less) (same_Some z p h) a.0
  less_at k (z ∷ zs) (suc i) p a h = less_at k zs i p a.1 h

  -- an added key that is before the one at a place moves it on by one
  pub slice_get-insert_before : (x : K) (ks : List K) (i : ℕ) (p : K) → has ks x ≡ false → slice_get ks i ≡ Some p → R x p ≡ Less
      → slice_get (insert_key R ks x) (suc i) ≡ Some p
  slice_get-insert_before x [] i p absent h b = absurd (none-some p h)
  slice_get-insert_before x (k ∷ ks) zero p absent h b =
      let less : R x k ≡ Less = subst (λ (y : K). R x y ≡ Less) (sym (same_Some k p h)) b in
      ap (λ r. slice_get (match_ordering r (x ∷ k ∷ ks) (k ∷ ks) (k ∷ insert_key R ks x)) 1) less ∙ h
  slice_get-insert_before x (k ∷ ks) (suc i) p absent h b =
      elim (R x k) as (λ r. (is_eq r || has ks x) ≡ false → slice_get (match_ordering r (x ∷ k ∷ ks) (k ∷ ks) (k ∷ insert_key R ks x)) (suc (suc i)) ≡ Some p) [
        | Less ↦ λ _. h
        | Equal ↦ λ e. absurd (false≢true (sym e))
        | Greater ↦ λ e. slice_get-insert_before x ks i p e h b
      ] absent

  -- an added key that is after the one at a place leaves it there
  pub slice_get-insert_after : (x : K) (ks : List K) (i : ℕ) (p : K) → IsStrictlySortedBy R ks → slice_get ks i ≡ Some p → R p x ≡ Less
      → slice_get (insert_key R ks x) i ≡ Some p
  slice_get-insert_after x [] i p s h b = absurd (none-some p h)
  slice_get-insert_after x (k ∷ ks) zero p s h b =
      let greater : R x k ≡ Greater = greater_from_less k x (subst (λ (y : K). R y x ≡ Less) (sym (same_Some k p h)) b) in
      ap (λ r. slice_get (match_ordering r (x ∷ k ∷ ks) (k ∷ ks) (k ∷ insert_key R ks x)) 0) greater ∙ h
  slice_get-insert_after x (k ∷ ks) (suc i) p s h b =
      let greater : R x k ≡ Greater = greater_from_less k x (o.trans k p x (less_at k ks i p (sorted_head R k ks s) h) b) in
      ap (λ r. slice_get (match_ordering r (x ∷ k ∷ ks) (k ∷ ks) (k ∷ insert_key R ks x)) (suc i)) greater
      ∙ slice_get-insert_after x ks i p (sorted_tail R k ks s) h b

  pub length-insert_key_le : (x : K) (ks : List K) → length (insert_key R ks x) ≤ length ks + 1
  length-insert_key_le x [] = omega arith
  length-insert_key_le x (k ∷ ks) =
      elim (R x k) as (λ r. length (match_ordering r (x ∷ k ∷ ks) (k ∷ ks) (k ∷ insert_key R ks x)) ≤ length (k ∷ ks) + 1) [
        | Less ↦ omega arith
        | Equal ↦ omega arith
        | Greater ↦ omega (arith, length-insert_key_le x ks)
      ]

  -- of keys in order that have y: y is not before the first
  not_before_first : (y k : K) (ks : List K) → IsStrictlySortedBy R (k ∷ ks) → has (k ∷ ks) y ≡ true → R y k ≡ Less → ⊥
  not_before_first y k ks s h less =
      let none : has ks y ≡ false = has-before_all y ks (less_than_all y k ks less (sorted_head R k ks s)) in
      false≢true (sym none ∙ ap (λ r. is_eq r || has ks y) (sym less) ∙ h)

  -- a removed key that is not after the one at a place brings the next one there
  pub slice_get-remove_upto : (y : K) (ks : List K) (i : ℕ) (p : K) → IsStrictlySortedBy R ks → has ks y ≡ true → slice_get ks i ≡ Some p
      → is_le (R y p) ≡ true → slice_get (remove_key (is_at (R y)) ks) i ≡ slice_get ks (suc i)
  slice_get-remove_upto y [] i p s m h b = absurd (none-some p h)
  slice_get-remove_upto y (k ∷ ks) zero p s m h b =
      elim (R y k) as (λ r. R y k ≡ r → slice_get (cond (is_eq r) ks (k ∷ remove_key (is_at (R y)) ks)) 0 ≡ slice_get ks 0) [
        | Less ↦ λ e. absurd (not_before_first y k ks s m e)
        | Equal ↦ λ e. refl
        | Greater ↦ λ e. absurd (false≢true (ap is_le (sym e) ∙ ap (λ (z : K). is_le (R y z)) (same_Some k p h) ∙ b))
      ] refl
  slice_get-remove_upto y (k ∷ ks) (suc i) p s m h b =
      elim (R y k) as (λ r. R y k ≡ r → slice_get (cond (is_eq r) ks (k ∷ remove_key (is_at (R y)) ks)) (suc i) ≡ slice_get ks (suc i)) [
        | Less ↦ λ e. absurd (not_before_first y k ks s m e)
        | Equal ↦ λ e. refl
        | Greater ↦ λ e. slice_get-remove_upto y ks i p (sorted_tail R k ks s) (ap (λ r. is_eq r || has ks y) (sym e) ∙ m) h b
      ] refl

  -- a removed key that is after the one at a place leaves it there
  pub slice_get-remove_after : (y : K) (ks : List K) (i : ℕ) (p : K) → IsStrictlySortedBy R ks → slice_get ks i ≡ Some p → R p y ≡ Less
      → slice_get (remove_key (is_at (R y)) ks) i ≡ Some p
  slice_get-remove_after y [] i p s h b = absurd (none-some p h)
  slice_get-remove_after y (k ∷ ks) zero p s h b =
      let greater : R y k ≡ Greater = greater_from_less k y (subst (λ (z : K). R z y ≡ Less) (sym (same_Some k p h)) b) in
      ap (λ r. slice_get (cond (is_eq r) ks (k ∷ remove_key (is_at (R y)) ks)) 0) greater ∙ h
  slice_get-remove_after y (k ∷ ks) (suc i) p s h b =
      let greater : R y k ≡ Greater = greater_from_less k y (o.trans k p y (less_at k ks i p (sorted_head R k ks s) h) b) in
      ap (λ r. slice_get (cond (is_eq r) ks (k ∷ remove_key (is_at (R y)) ks)) (suc i)) greater
      ∙ slice_get-remove_after y ks i p (sorted_tail R k ks s) h b

  -- none of the keys is up to one that is before each
  filter-before_none : (p : K) (ks : List K) → AllByRecursion (λ z. R p z ≡ Less) ks → filter (λ q. not (is_le (R p q))) ks ≡ []
  filter-before_none p [] a = refl
  filter-before_none p (k ∷ ks) a =
      ap (λ r. cond (not (is_le r)) (k ∷ filter (λ q. not (is_le (R p q))) ks) (filter (λ q. not (is_le (R p q))) ks)) a.0
      ∙ filter-before_none p ks a.1

  -- the keys before the one at a place
  pub filter-before : (ks : List K) (i : ℕ) (p : K) → IsStrictlySortedBy R ks → slice_get ks i ≡ Some p → filter (λ q. not (is_le (R p q))) ks ≡ take i ks
  filter-before [] i p s h = absurd (none-some p h)
  filter-before (k ∷ ks) zero p s h =
      let tied : R p k ≡ Equal = subst (λ (z : K). R z k ≡ Equal) (same_Some k p h) (tied_itself o k) in
      ap (λ r. cond (not (is_le r)) (k ∷ filter (λ q. not (is_le (R p q))) ks) (filter (λ q. not (is_le (R p q))) ks)) tied
      ∙ filter-before_none p ks (subst (λ (z : K). AllByRecursion (λ y. R z y ≡ Less) ks) (same_Some k p h) (sorted_head R k ks s))
  filter-before (k ∷ ks) (suc i) p s h =
      let greater : R p k ≡ Greater = greater_from_less k p (less_at k ks i p (sorted_head R k ks s) h) in
      ap (λ r. cond (not (is_le r)) (k ∷ filter (λ q. not (is_le (R p q))) ks) (filter (λ q. not (is_le (R p q))) ks)) greater
      ∙ ap (λ (zs : List K). k ∷ zs) (filter-before ks i p (sorted_tail R k ks s) h)

  filter-after_all : (p : K) (ks : List K) → AllByRecursion (λ z. R p z ≡ Less) ks → filter (λ q. is_lt (R p q) && true) ks ≡ ks
  filter-after_all p [] a = refl
  filter-after_all p (k ∷ ks) a =
      ap (λ r. cond (is_lt r && true) (k ∷ filter (λ q. is_lt (R p q) && true) ks) (filter (λ q. is_lt (R p q) && true) ks)) a.0
      ∙ ap (λ (zs : List K). k ∷ zs) (filter-after_all p ks a.1)

  -- the keys after the one at a place
  pub filter-after : (ks : List K) (i : ℕ) (p : K) → IsStrictlySortedBy R ks → slice_get ks i ≡ Some p
      → filter (λ q. is_lt (R p q) && true) ks ≡ drop (suc i) ks
  filter-after [] i p s h = absurd (none-some p h)
  filter-after (k ∷ ks) zero p s h =
      let tied : R p k ≡ Equal = subst (λ (z : K). R z k ≡ Equal) (same_Some k p h) (tied_itself o k) in
      ap (λ r. cond (is_lt r && true) (k ∷ filter (λ q. is_lt (R p q) && true) ks) (filter (λ q. is_lt (R p q) && true) ks)) tied
      ∙ filter-after_all p ks (subst (λ (z : K). AllByRecursion (λ y. R z y ≡ Less) ks) (same_Some k p h) (sorted_head R k ks s))
  filter-after (k ∷ ks) (suc i) p s h =
      let greater : R p k ≡ Greater = greater_from_less k p (less_at k ks i p (sorted_head R k ks s) h) in
      ap (λ r. cond (is_lt r && true) (k ∷ filter (λ q. is_lt (R p q) && true) ks) (filter (λ q. is_lt (R p q) && true) ks)) greater
      ∙ filter-after ks i p (sorted_tail R k ks s) h

  -- a key that is there is among the first ones where it is not after the last of them
  pub has-take : (q : K) (ks : List K) (i : ℕ) (p : K) → IsStrictlySortedBy R ks → has ks q ≡ true → slice_get ks i ≡ Some p
      → has (take (suc i) ks) q ≡ is_le (R q p)
  has-take q [] i p s m h = absurd (none-some p h)
  has-take q (k ∷ ks) zero p s m h =
      subst (λ (z : K). (is_eq (R q k) || false) ≡ is_le (R q z)) (same_Some k p h)
      (elim (R q k) as (λ r. R q k ≡ r → (is_eq r || false) ≡ is_le r) [
        | Less ↦ λ e. absurd (not_before_first q k ks s m e)
        | Equal ↦ λ e. refl
        | Greater ↦ λ e. refl
      ] refl)
  has-take q (k ∷ ks) (suc i) p s m h =
      elim (R q k) as (λ r. R q k ≡ r → (is_eq r || has (take (suc i) ks) q) ≡ is_le (R q p)) [
        | Less ↦ λ e. absurd (not_before_first q k ks s m e)
        | Equal ↦ λ e. sym (ap is_le (o.congr q k p e ∙ less_at k ks i p (sorted_head R k ks s) h))
        | Greater ↦ λ e. has-take q ks i p (sorted_tail R k ks s) (ap (λ r. is_eq r || has ks q) (sym e) ∙ m) h
      ] refl
