-- Objects and their places.
use Rattle.std.proofs.Common.{◌≡◌, ◌≢◌, ◌⊎◌, ℕ, zero, suc, ◌<◌, ◌≤◌, Bool, true, false, cond, ◌||◌, List, [], ◌∷◌, ◌++◌, Some, None, length, get_or, nat_eq, Contains, refl, sym, ap, ◌∙◌, subst, inl, inr, arith}
use Rattle.std.specs.List.{list_any, position, position_or_len, slice_get}
use Rattle.std.proofs.lemmas.Bool.{eqb-true, eq-eqb, false≢true, cases_lt, lt-ltb}
use Rattle.std.proofs.lemmas.List.{length_push, get_or_push, get_or_append_left}
use Rattle.std.proofs.lemmas.List.Folds.{list_any_none}
use Rattle.std.proofs.lemmas.List.Quantifiers.{position-Some}
use Rattle.std.proofs.lemmas.List.Sums.{fails_before_first}
use Rattle.std.proofs.lemmas.Option.{none-some, same_Some, slice_get-get_or}
use Rattle.containers.specs.Keys.{Keys, FitsRoom}

-- the place that was found has the object
pub position_at : (object : ℕ) (keys : List ℕ) (place : ℕ) → position (nat_eq object) keys ≡ Some place → slice_get keys place ≡ Some object
position_at object keys place found =
    let is = position-Some (nat_eq object) keys place object found in
    slice_get-get_or keys place object is.0 ∙ ap (λ (o : ℕ). Some o) (sym (eqb-true object (get_or keys place object) is.1))

pub any_at : (object : ℕ) (keys : List ℕ) (place : ℕ) → slice_get keys place ≡ Some object → list_any (nat_eq object) keys ≡ true
any_at object [] place at = absurd (none-some object at)
any_at object (key ∷ keys) zero at = ap (λ b. b || list_any (nat_eq object) keys) (eq-eqb object key (sym (same_Some key object at)))
any_at object (key ∷ keys) (suc place) at = ap (λ b. nat_eq object key || b) (any_at object keys place at) ∙ or_true (nat_eq object key)
  where
    or_true : (b : Bool) → (b || true) ≡ true
    or_true true = refl
    or_true false = refl

pub none_at : (object : ℕ) (keys : List ℕ) (place : ℕ) → list_any (nat_eq object) keys ≡ false → slice_get keys place ≡ Some object → ⊥
none_at object keys place none at = false≢true (sym none ∙ any_at object keys place at)

pub not_among : (object : ℕ) (keys : List ℕ) → list_any (nat_eq object) keys ≡ false → ¬ Contains keys object
not_among object keys none there =
    none_at object keys there.0 none (slice_get-get_or keys there.0 object there.1 ∙ ap (λ (o : ℕ). Some o) there.2)

-- no place was found
pub position_none : (object : ℕ) (keys : List ℕ) → position (nat_eq object) keys ≡ None → list_any (nat_eq object) keys ≡ false
position_none object keys none =
    elim (cases_lt (position_or_len (nat_eq object) keys) (length keys)) as (λ _. list_any (nat_eq object) keys ≡ false) [
      | inl within ↦
          absurd (none-some (position_or_len (nat_eq object) keys)
          (sym none ∙ ap (λ b. cond b (Some (position_or_len (nat_eq object) keys)) None) (lt-ltb (position_or_len (nat_eq object) keys) (length keys) within)))
      | inr past ↦ list_any_none (nat_eq object) keys (λ k d within. fails_before_first (nat_eq object) keys k d (omega arith))
    ]

-- a place that was added
pub pushed_at : (object : ℕ) (keys others : List ℕ) (place : ℕ) → others ≡ keys ++ object ∷ [] → place ≡ length keys → slice_get others place ≡ Some object
pushed_at object keys others place is at =
    let size = length_push keys object in
    let within : place < length (keys ++ object ∷ []) = omega arith in
    ap (λ (ks : List ℕ). slice_get ks place) is ∙ slice_get-get_or (keys ++ object ∷ []) place object within
    ∙ ap (λ (o : ℕ). Some o) (get_or_push keys object object place (sym at))

pub fits_more : (places after : Keys) (object : ℕ) → FitsRoom places → list_any (nat_eq object) places.keys ≡ false → length places.keys < places.room
    → after ≡ record places { keys = places.keys ++ object ∷ [] } → FitsRoom after
fits_more places after object fits none room is =
    subst FitsRoom (sym is) (record {
      few = fits.few;
      within = let size = length_push places.keys object in omega arith;
      distinct = λ i j d below within. distinct_at i j d below within (cases_lt j (length places.keys));
    })
  where
    distinct_at : (i j d : ℕ) → i < j → j < length (places.keys ++ object ∷ []) → (j < length places.keys) ⊎ (length places.keys ≤ j)
        → get_or (places.keys ++ object ∷ []) i d ≢ get_or (places.keys ++ object ∷ []) j d
    distinct_at i j d below within (inl inner) =
        let here = get_or_append_left places.keys (object ∷ []) d i (omega arith) in
        let there = get_or_append_left places.keys (object ∷ []) d j inner in
        λ e. fits.distinct i j d below inner (sym here ∙ e ∙ there)
    distinct_at i j d below within (inr last) =
        let size = length_push places.keys object in
        let at : length places.keys ≡ j = omega arith in
        let within_i : i < length places.keys = omega arith in
        let here = get_or_append_left places.keys (object ∷ []) d i within_i in
        let there = get_or_push places.keys object d j at in
        λ e. none_at object places.keys i none (slice_get-get_or places.keys i d within_i ∙ ap (λ (o : ℕ). Some o) (sym here ∙ e ∙ there))
