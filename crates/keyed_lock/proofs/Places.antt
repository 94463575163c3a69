-- Lists by their places, as a step of a table sees them and as contracts do.
use Rattle.std.proofs.Common.{◌≡◌, ◌≢◌, ℕ, zero, suc, ◌+◌, ◌<◌, List, [], ◌∷◌, ◌++◌, set, length, map, Option, Some, None, slice_index_or, refl, sym, ap, ◌∙◌, subst, arith, inl, inr, take, Bool, false, get_or}
use Rattle.std.specs.Prelude.{if◌then◌else◌, reverse}
use Rattle.std.proofs.lemmas.Bool.Decides.{eqb_tells}
use Rattle.std.proofs.lemmas.List.{get_or-set_other, reverse-append, map-append}
use mathlib.Core.Option.{some, some-injective, some-ne-none}
use mathlib.Core.Logic.{dite}
use native.Mathlib.Decide.{ℕ_discrete}
use lib.ListN.{get_elem?}
use Rattle.std.specs.Mem.Slots.Ownership.{Filled}
use Rattle.keyed_lock.specs.Rule.{count_held}
use Rattle.keyed_lock.specs.Hold.{KeepAll}

pub held_here : (place : ℕ) → count_held place (Some place) ≡ 1
held_here place = elim (eqb_tells place place) [ inl t ↦ ap (λ b. if b then 1 else 0) t.0 | inr f ↦ absurd (f.1 refl) ]

pub held_else : (place other : ℕ) → other ≢ place → count_held place (Some other) ≡ 0
held_else place other ne = elim (eqb_tells other place) [ inl t ↦ absurd (ne t.1) | inr f ↦ ap (λ b. if b then 1 else 0) f.0 ]

module _ {A : Type 0} where
  pub there : (l : List A) (i : ℕ) → i < length l → (a : A) × (get_elem? l i ≡ some a)
  there [] i h = absurd (omega arith)
  there (x ∷ xs) zero h = (x, refl)
  there (x ∷ xs) (suc i) h = there xs i (omega arith)

  pub at_place : (l : List A) (i : ℕ) (a d : A) → get_elem? l i ≡ some a → slice_index_or l i d ≡ a
  at_place [] i a d e = absurd (some-ne-none a (sym e))
  at_place (x ∷ xs) zero a d e = some-injective x a e
  at_place (x ∷ xs) (suc i) a d e = at_place xs i a d e

  pub within : (l : List A) (i : ℕ) (a : A) → get_elem? l i ≡ some a → i < length l
  within [] i a e = absurd (some-ne-none a (sym e))
  within (x ∷ xs) zero a e = omega arith
  within (x ∷ xs) (suc i) a e = let h = within xs i a e in omega arith

  pub placed : (l : List A) (i : ℕ) (d : A) → i < length l → get_elem? l i ≡ some (slice_index_or l i d)
  placed [] i d h = absurd (omega arith)
  placed (x ∷ xs) zero d h = refl
  placed (x ∷ xs) (suc i) d h = placed xs i d (omega arith)

  -- a list in which a place gets what it has
  pub set_same : (l : List A) (i : ℕ) (d : A) → i < length l → set l i (slice_index_or l i d) ≡ l
  set_same [] i d h = absurd (omega arith)
  set_same (x ∷ xs) zero d h = refl
  set_same (x ∷ xs) (suc i) d h = ap (λ l. x ∷ l) (set_same xs i d (omega arith))

pub at_map : {A B : Type 0} (f : A → B) (l : List A) (i : ℕ) (a : A) → get_elem? l i ≡ some a → get_elem? (map f l) i ≡ some (f a)
at_map f [] i a e = absurd (some-ne-none a (sym e))
at_map f (x ∷ xs) zero a e = ap (λ y. some (f y)) (some-injective x a e)
at_map f (x ∷ xs) (suc i) a e = at_map f xs i a e

-- where each place has a value the list is one of values
pub all_some : {V : Type 0} (xs : List (Option V)) → ((i : ℕ) → i < length xs → (y : V) × (get_elem? xs i ≡ some (Some y)))
    → (values : List V) × (xs ≡ map Some values)
all_some [] h = ([], refl)
all_some {V} (x ∷ xs) h =
    let first = h 0 (omega arith) in
    let rest = all_some xs (λ i l. h (suc i) (omega arith)) in
    (first.0 ∷ rest.0, (λ k. some-injective x (Some first.0) first.1 k ∷ rest.1 k))

some_value : {V : Type 0} (a b : V) → Some a ≡ Some b → a ≡ b
some_value a b e = cc

-- the values of a list of slots keep the fact, if that of each place does
pub keep_of : {V K : Type 0} (fact : K → ℕ → V → Type 0) (key : K) (xs : List (Option V)) (values : List V) → xs ≡ map Some values
    → ((i : ℕ) → i < length xs → (y : V) × (get_elem? xs i ≡ some (Some y)) × fact key i y) → length xs ≡ length values → KeepAll fact key values
keep_of fact key xs values are h long = record {
  each = λ place d l.
      let one = h place (omega arith) in
      let mine = at_map Some values place (slice_index_or values place d) (placed values place d l) in
      let same : one.0 ≡ slice_index_or values place d = some_value one.0 (slice_index_or values place d)
      (some-injective (Some one.0) (Some (slice_index_or values place d)) (sym one.1 ∙ (ap (λ l. get_elem? l place) are ∙ mine))) in
      subst (λ y. fact key place y) same one.2;
}

-- a list of values has no place without one
no_none : {V : Type 0} (all : List V) (xs ys : List (Option V)) → xs ++ None ∷ ys ≡ map Some all → ⊥
no_none [] [] ys e = cc
no_none [] (x ∷ xs) ys e = cc
no_none (a ∷ all) [] ys e = cc
no_none (a ∷ all) (x ∷ xs) ys e = no_none all xs ys (let rest : xs ++ None ∷ ys ≡ map Some all = cc in rest)

pub popped_none : {V : Type 0} (all values : List V) (whole slots rest : List (Option V)) (last : Option V) → map Some values ++ reverse slots ≡ whole
    → whole ≡ map Some all → slots ≡ rest ++ last ∷ [] → last ≡ None → ⊥
popped_none all values whole slots rest last front are popped none =
    no_none all (map Some values) (reverse rest)
    (ap (λ l. map Some values ++ l) (sym (ap reverse popped ∙ (reverse-append rest (last ∷ []) ∙ ap (λ o. o ∷ reverse rest) none))) ∙ (front ∙ are))

none_there : {V : Type 0} (values : List V) (i : ℕ) → get_elem? (map Some values) i ≡ some None → ⊥
none_there [] i e = some-ne-none None (sym e)
none_there (x ∷ xs) zero e = let s : Some x ≡ None = some-injective (Some x) None e in cc
none_there (x ∷ xs) (suc i) e = none_there xs i e

pub none_at : {V : Type 0} (values : List V) (xs : List (Option V)) (i : ℕ) (o : Option V) → xs ≡ map Some values → get_elem? xs i ≡ some o → o ≡ None → ⊥
none_at values xs i o are at none = none_there values i (ap (λ l. get_elem? l i) (sym are) ∙ (at ∙ ap (λ p. some p) none))

take_snoc : {A : Type 0} (xs : List A) (i : ℕ) (a : A) → get_elem? xs i ≡ some a → take (suc i) xs ≡ take i xs ++ a ∷ []
take_snoc [] i a e = absurd (some-ne-none a (sym e))
take_snoc (x ∷ xs) zero a e = ap (λ y. y ∷ []) (some-injective x a e)
take_snoc (x ∷ xs) (suc i) a e = ap (λ l. x ∷ l) (take_snoc xs i a e)

pub took_more : {V : Type 0} (xs : List (Option V)) (i : ℕ) (room more : List V) (o : Option V) (value : V) → map Some room ≡ take i xs
    → get_elem? xs i ≡ some o → o ≡ Some value → more ≡ room ++ value ∷ [] → map Some more ≡ take (i + 1) xs
took_more xs i room more o value took at is pushed =
    ap (map Some) pushed ∙ (map-append Some room (value ∷ []) ∙ (ap (λ l. l ++ Some value ∷ []) took
    ∙ sym ((let e : i + 1 ≡ suc i = omega arith in ap (λ n. take n xs) e) ∙ take_snoc xs i (Some value) (at ∙ ap (λ p. some p) is))))

-- a place that was emptied is no more full, and all others stay as they were
pub full_on : (filled now : List Bool) (place size : ℕ) → now ≡ set filled place false → Filled filled place size → Filled now (place + 1) size
full_on filled now place size is full k ge l = ap (λ f. get_or f k false) is
    ∙ (get_or-set_other filled place k false false (λ e. absurd (omega arith)) ∙ full k (omega arith) l)

cleared : (l : List Bool) (i : ℕ) → get_or (set l i false) i false ≡ false
cleared [] i = refl
cleared (x ∷ xs) zero = refl
cleared (x ∷ xs) (suc i) = cleared xs i

pub gone_on : (filled now : List Bool) (place : ℕ) → now ≡ set filled place false → ((k : ℕ) → k < place → get_or filled k false ≡ false)
    → (k : ℕ) → k < place + 1 → get_or now k false ≡ false
gone_on filled now place is gone k l = ap (λ f. get_or f k false) is ∙ dite (ℕ_discrete k place)
    (λ (e : k ≡ place). subst (λ n. get_or (set filled place false) n false ≡ false) (sym e) (cleared filled place))
    (λ (ne : k ≢ place). get_or-set_other filled place k false false ne ∙ gone k (omega arith))

pub some_lists : {V : Type 0} (xs ys : List V) → map Some xs ≡ map Some ys → xs ≡ ys
some_lists [] [] e = refl
some_lists [] (y ∷ ys) e = absurd (cc)
some_lists (x ∷ xs) [] e = absurd (cc)
some_lists (x ∷ xs) (y ∷ ys) e =
    let first : x ≡ y = cc in
    let rest : map Some xs ≡ map Some ys = cc in
    (λ k. first k ∷ some_lists xs ys rest k)
