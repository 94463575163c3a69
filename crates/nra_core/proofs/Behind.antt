-- Items in order: what stands behind the first k of them, in the words of the k-th low.
use Rattle.std.proofs.Common.{◌≡◌, ◌⊎◌, inl, inr, ℕ, zero, suc, ◌-◌, ◌<◌, ◌≤◌, ◌==◌, Bool, true, false, ◌&&◌, ◌||◌, List, [], ◌∷◌, take, drop, Contains, Some, nat_lt, sym, subst, ◌∙◌, arith, take-append-drop}
use Rattle.std.specs.List.{count_by, slice_get}
use Rattle.std.proofs.lemmas.Bool.{cases_Bool, cases_lt, false≢true, or_left, or_right, or_cases, and_parts, and_from, eq-eqb, eqb-true, lt-ltb, ltb-true}
use Rattle.std.proofs.lemmas.Option.{none-some, same_Some}
use Rattle.std.proofs.lemmas.List.Elements.{Contains-append_right, Contains-append_cases}
use Rattle.ranked_list.specs.declared.item.Item.{Item}
use Rattle.topk_theory.specs.Order.{IsBefore, IsInOrder}
use Rattle.topk_theory.proofs.AgreementLists.{contains_nil, contains_cases, slice_get_contains}
use Rattle.topk_theory.proofs.NoRandomTop.{before_low}
use Rattle.topk_theory.proofs.Counts.{count_yes, count_no, count_none, none_counted}

pub in_order_first : (x : Item) (xs : List Item) (y : Item) → IsInOrder (x ∷ xs) → Contains xs y → IsBefore x y
in_order_first x xs y ordered c = subst (λ z. IsBefore x z) c.2 (ordered 0 (suc c.0) y (omega arith) (let l = c.1 in omega arith))

pub in_order_rest : (x : Item) (xs : List Item) → IsInOrder (x ∷ xs) → IsInOrder xs
in_order_rest x xs ordered = λ i j d lt in_range. ordered (suc i) (suc j) d (omega arith) (omega arith)

-- behind a place lows are no greater, and down to it no smaller
pub behind_low : (xs : List Item) (i : ℕ) (last item : Item) → IsInOrder xs → slice_get xs i ≡ Some last → Contains (drop (suc i) xs) item
    → item.low ≤ last.low
behind_low [] i last item ordered at c = absurd (none-some last at)
behind_low (x ∷ xs) zero last item ordered at c =
    subst (λ (l : Item). item.low ≤ l.low) (same_Some x last at) (before_low x item (in_order_first x xs item ordered c))
behind_low (x ∷ xs) (suc i) last item ordered at c = behind_low xs i last item (in_order_rest x xs ordered) at c

pub within_low : (xs : List Item) (i : ℕ) (last item : Item) → IsInOrder xs → slice_get xs i ≡ Some last → Contains (take (suc i) xs) item
    → last.low ≤ item.low
within_low [] i last item ordered at c = absurd (none-some last at)
within_low (x ∷ xs) zero last item ordered at c =
    elim (contains_cases x [] item c) [
      | inl e ↦ subst (λ (l : Item). l.low ≤ item.low) (same_Some x last at) (subst (λ (l : Item). x.low ≤ l.low) e (omega arith))
      | inr n ↦ absurd (contains_nil item n)
    ]
within_low (x ∷ xs) (suc i) last item ordered at c =
    elim (contains_cases x (take (suc i) xs) item c) [
      | inl e ↦ subst (λ (l : Item). last.low ≤ l.low) e (before_low x last (in_order_first x xs last ordered (slice_get_contains xs i last at)))
      | inr d ↦ within_low xs i last item (in_order_rest x xs ordered) at d
    ]

pub within_or_behind : (k : ℕ) (xs : List Item) (x : Item) → Contains xs x → Contains (take k xs) x ⊎ Contains (drop k xs) x
within_or_behind k xs x c = Contains-append_cases (take k xs) (drop k xs) x (subst (λ ys. Contains ys x) (sym (take-append-drop k xs)) c)

pub behind_whole : (k : ℕ) (xs : List Item) (x : Item) → Contains (drop k xs) x → Contains xs x
behind_whole k xs x c = subst (λ ys. Contains ys x) (take-append-drop k xs) (Contains-append_right (take k xs) (drop k xs) x c)

-- ---- a test that whoever stands before a passing item passes too
abbrev pub GoesUp : (Item → Bool) → Type 0
GoesUp p = (a b : Item) → IsBefore a b → p b ≡ true → p a ≡ true

fails_after : (p : Item → Bool) (x : Item) (xs : List Item) → GoesUp p → IsInOrder (x ∷ xs) → p x ≡ false → (y : Item) → Contains xs y → p y ≡ false
fails_after p x xs up ordered f y c =
    elim (cases_Bool (p y)) [ inl t ↦ absurd (false≢true (sym f ∙ up x y (in_order_first x xs y ordered c) t)) | inr n ↦ n ]

-- none behind the first k passes where at most k pass, and the other way round
pub few_none_behind : (p : Item → Bool) (k : ℕ) (xs : List Item) (item : Item) → GoesUp p → IsInOrder xs → count_by p xs ≤ k
    → Contains (drop k xs) item → p item ≡ false
few_none_behind p k [] item up ordered few c = absurd (contains_nil item (behind_whole k [] item c))
few_none_behind p zero (x ∷ xs) item up ordered few c = none_counted p (x ∷ xs) item few c
few_none_behind p (suc k) (x ∷ xs) item up ordered few c =
    elim (cases_Bool (p x)) [
      | inl t ↦ few_none_behind p k xs item up (in_order_rest x xs ordered) (omega (arith, count_yes p x xs t)) c
      | inr f ↦ fails_after p x xs up ordered f item (behind_whole k xs item c)
    ]

pub none_behind_few : (p : Item → Bool) (k : ℕ) (xs : List Item) → GoesUp p → IsInOrder xs
    → ((item : Item) → Contains (drop k xs) item → p item ≡ false) → count_by p xs ≤ k
none_behind_few p k [] up ordered none = omega arith
none_behind_few p zero (x ∷ xs) up ordered none = omega (arith, count_none p (x ∷ xs) none)
none_behind_few p (suc k) (x ∷ xs) up ordered none =
    elim (cases_Bool (p x)) [
      | inl t ↦ omega (arith, count_yes p x xs t, none_behind_few p k xs up (in_order_rest x xs ordered) none)
      | inr f ↦ omega (arith, count_no p x xs f, count_none p xs (λ y c. fails_after p x xs up ordered f y c))
    ]

-- ---- the items that stand above a bound: their low is above it, or is the bound with a high above it
abbrev pub is_above : ℕ → Item → Bool
is_above bound item = nat_lt bound item.low || ((item.low == bound) && nat_lt bound item.high)

pub above_from : (bound : ℕ) (item : Item) → (bound < item.low) ⊎ ((item.low ≡ bound) × (bound < item.high)) → is_above bound item ≡ true
above_from bound item (inl l) = or_left (nat_lt bound item.low) ((item.low == bound) && nat_lt bound item.high) (lt-ltb bound item.low l)
above_from bound item (inr h) = or_right (nat_lt bound item.low) ((item.low == bound) && nat_lt bound item.high) (and_from (item.low == bound) (nat_lt bound item.high) (eq-eqb item.low bound h.0) (lt-ltb bound item.high h.1))

pub above_means : (bound : ℕ) (item : Item) → is_above bound item ≡ true → (bound < item.low) ⊎ ((item.low ≡ bound) × (bound < item.high))
above_means bound item t =
    elim (or_cases (nat_lt bound item.low) ((item.low == bound) && nat_lt bound item.high) t) [
      | inl l ↦ inl (ltb-true bound item.low l)
      | inr h ↦ (
          let parts = and_parts (item.low == bound) (nat_lt bound item.high) h in
          inr (eqb-true item.low bound parts.0, ltb-true bound item.high parts.1))
    ]

pub above_goes_up : (bound : ℕ) → GoesUp (is_above bound)
above_goes_up bound a b before t = above_from bound a (go before (above_means bound b t))
  where
    go : IsBefore a b → (bound < b.low) ⊎ ((b.low ≡ bound) × (bound < b.high)) → (bound < a.low) ⊎ ((a.low ≡ bound) × (bound < a.high))
    go (inl low) (inl h) = inl (omega arith)
    go (inl low) (inr h) = inl (let e = h.0 in omega arith)
    go (inr tie) (inl h) = inl (let e = tie.0 in omega arith)
    go (inr (low, inl high)) (inr (same, above)) = inr (omega arith, omega arith)
    go (inr (low, inr (high, object))) (inr (same, above)) = inr (omega arith, omega arith)

-- ---- the highs behind the first k
-- no item with a low below the bound has a high above it
abbrev pub NoneBelow : ℕ → List Item → Type 0
NoneBelow bound items = (item : Item) → Contains items item → item.low < bound → item.high ≤ bound

-- where the k-th low is the bound, each high behind the first k is no greater than it, if no item of a lower low has a high above it and at most k items stand above it
pub highs_behind : (k : ℕ) (xs : List Item) (last : Item) (bound : ℕ) → 1 ≤ k → IsInOrder xs → slice_get xs (k - 1) ≡ Some last → last.low ≡ bound
    → NoneBelow bound xs → count_by (is_above bound) xs ≤ k → (item : Item) → Contains (drop k xs) item → item.high ≤ bound
highs_behind k xs last bound one ordered at is_bound below few item c =
    let next : suc (k - 1) ≡ k = omega arith in
    let low : item.low ≤ last.low = behind_low xs (k - 1) last item ordered at (subst (λ n. Contains (drop n xs) item) (sym next) c) in
    let fails : is_above bound item ≡ false = few_none_behind (is_above bound) k xs item (above_goes_up bound) ordered few c in
    elim (cases_lt item.low bound) [
      | inl less ↦ below item (behind_whole k xs item c) less
      | inr no_less ↦ elim (cases_lt bound item.high) [
        | inr within ↦ within
        | inl above ↦ absurd (false≢true (sym fails ∙ above_from bound item (inr (omega arith, above))))
      ]
    ]

-- and the other way round
pub none_below_from : (k : ℕ) (xs : List Item) (last : Item) (bound : ℕ) → 1 ≤ k → IsInOrder xs → slice_get xs (k - 1) ≡ Some last → last.low ≡ bound
    → ((item : Item) → Contains (drop k xs) item → item.high ≤ bound) → NoneBelow bound xs
none_below_from k xs last bound one ordered at is_bound highs item c less =
    let next : suc (k - 1) ≡ k = omega arith in
    elim (within_or_behind k xs item c) [
      | inl within ↦ absurd (
          let low : last.low ≤ item.low = within_low xs (k - 1) last item ordered at (subst (λ n. Contains (take n xs) item) (sym next) within) in
          let h : ⊥ = omega arith in h)
      | inr behind ↦ highs item behind
    ]

pub few_above_from : (k : ℕ) (xs : List Item) (last : Item) (bound : ℕ) → 1 ≤ k → IsInOrder xs → slice_get xs (k - 1) ≡ Some last → last.low ≡ bound
    → ((item : Item) → Contains (drop k xs) item → item.high ≤ bound) → count_by (is_above bound) xs ≤ k
few_above_from k xs last bound one ordered at is_bound highs =
    let next : suc (k - 1) ≡ k = omega arith in
    none_behind_few (is_above bound) k xs (above_goes_up bound) ordered (λ item c.
    let low : item.low ≤ last.low = behind_low xs (k - 1) last item ordered at (subst (λ n. Contains (drop n xs) item) (sym next) c) in
    let high = highs item c in
    elim (cases_Bool (is_above bound item)) [
      | inr f ↦ f
      | inl t ↦ absurd (fails item low high (above_means bound item t))
    ])
  where
    fails : (item : Item) → item.low ≤ last.low → item.high ≤ bound → (bound < item.low) ⊎ ((item.low ≡ bound) × (bound < item.high)) → ⊥
    fails item low high (inl l) = omega arith
    fails item low high (inr h) = omega (arith, h.1)
