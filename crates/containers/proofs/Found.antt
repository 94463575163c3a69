-- What the value of an object is, by where it is found.
use Rattle.std.proofs.Common.{◌≡◌, ℕ, zero, suc, ◌-◌, ◌<◌, ◌≤◌, ◌==◌, inl, inr, cond, List, ◌++◌, length, take, replicate, Option, Some, None, nat_eq, slice_index_or, slice_set, refl, sym, ap, subst, ◌∙◌, eq-eqb, ne_eqb}
use Rattle.std.specs.Map.{lookup}
use Rattle.std.proofs.lemmas.Bool.{cases_eq, cases_lt}
use Rattle.std.proofs.lemmas.List.{take_all, get_or-set_same, get_or-set_other, get_or_append_left, get_or-append_right, get_or_past}
use Rattle.containers.specs.Values.{Values, or_other, value_of}

-- an object without a value in the table has that of the others
pub found_far : {V : Type 0} → (map : Values V) (near : List (Option V)) (far : List (ℕ × V)) (spare object : ℕ) (found answer : Option V)
    → (let shown : Values V = record { near = near; far = far; spare = spare } in shown ≡ map)
    → found ≡ slice_index_or near object None → found ≡ None → answer ≡ lookup (nat_eq object) far → answer ≡ value_of map object
found_far map near far spare object found answer is here none there =
    there ∙ ap (λ o. or_other o (lookup (nat_eq object) far)) (sym none ∙ here) ∙ ap (λ m. value_of m object) is

-- so has one past the table
pub past_near : {V : Type 0} → (map : Values V) (near : List (Option V)) (far : List (ℕ × V)) (spare object : ℕ) (answer : Option V)
    → (let shown : Values V = record { near = near; far = far; spare = spare } in shown ≡ map)
    → length near ≤ object → answer ≡ lookup (nat_eq object) far → answer ≡ value_of map object
past_near map near far spare object answer is past there = found_far map near far spare object None answer is (sym (get_or_past near object None past)) refl there

-- a value is written in the table
set_at : {V : Type 0} → (near : List (Option V)) (far : List (ℕ × V)) (object other : ℕ) (value : V) → object < length near
    → or_other (slice_index_or (slice_set near object (Some value)) other None)
    (lookup (nat_eq other) far) ≡ cond (object == other) (Some value) (or_other (slice_index_or near other None) (lookup (nat_eq other) far))
set_at near far object other value within =
    elim (cases_eq object other) [
      | inl same ↦ subst (λ o. or_other (slice_index_or (slice_set near object (Some value)) o None) (lookup (nat_eq o) far) ≡ cond (object == o) (Some value) (or_other (slice_index_or near o None) (lookup (nat_eq o) far))) same
          (ap (λ v. or_other v (lookup (nat_eq object) far)) (get_or-set_same near object (Some value) None within)
          ∙ sym (ap (λ b. cond b (Some value) (or_other (slice_index_or near object None) (lookup (nat_eq object) far))) (eq-eqb object object refl)))
      | inr apart ↦ ap (λ v. or_other v (lookup (nat_eq other) far)) (get_or-set_other near object other (Some value) None (λ e. apart (sym e)))
          ∙ sym (ap (λ b. cond b (Some value) (or_other (slice_index_or near other None) (lookup (nat_eq other) far))) (ne_eqb object other apart))
    ]

pub set_near : {V : Type 0} → (map : Values V) (near now : List (Option V)) (far : List (ℕ × V)) (spare object : ℕ) (value : V)
    → (let shown : Values V = record { near = near; far = far; spare = spare } in shown ≡ map)
    → object < length near → now ≡ slice_set near object (Some value) → (other : ℕ)
    → or_other (slice_index_or now other None) (lookup (nat_eq other) far) ≡ cond (object == other) (Some value) (value_of map other)
set_near map near now far spare object value is within written other =
    ap (λ xs. or_other (slice_index_or xs other None) (lookup (nat_eq other) far)) written ∙ set_at near far object other value within
    ∙ ap (λ m. cond (object == other) (Some value) (value_of m other)) is

-- a value is put past the table
far_at : {V : Type 0} → (near : List (Option V)) (far : List (ℕ × V)) (object other : ℕ) (value : V) → length near ≤ object
    → or_other (slice_index_or near other None) (cond (object == other) (Some value) (lookup (nat_eq other) far))
    ≡ cond (object == other) (Some value) (or_other (slice_index_or near other None) (lookup (nat_eq other) far))
far_at near far object other value past =
    elim (cases_eq object other) [
      | inl same ↦ subst (λ o. or_other (slice_index_or near o None) (cond (object == o) (Some value) (lookup (nat_eq o) far)) ≡ cond (object == o) (Some value) (or_other (slice_index_or near o None) (lookup (nat_eq o) far))) same
          (ap (λ v. or_other v (cond (object == object) (Some value) (lookup (nat_eq object) far))) (get_or_past near object None past)
          ∙ ap (λ b. cond b (Some value) (lookup (nat_eq object) far)) (eq-eqb object object refl)
          ∙ sym (ap (λ b. cond b (Some value) (or_other (slice_index_or near object None) (lookup (nat_eq object) far))) (eq-eqb object object refl)))
      | inr apart ↦ ap (λ b. or_other (slice_index_or near other None) (cond b (Some value) (lookup (nat_eq other) far))) (ne_eqb object other apart)
          ∙ sym (ap (λ b. cond b (Some value) (or_other (slice_index_or near other None) (lookup (nat_eq other) far))) (ne_eqb object other apart))
    ]

pub set_far : {V : Type 0} → (map : Values V) (near : List (Option V)) (far now : List (ℕ × V)) (spare object : ℕ) (value : V)
    → (let shown : Values V = record { near = near; far = far; spare = spare } in shown ≡ map)
    → length near ≤ object → ((other : ℕ) → lookup (nat_eq other) now ≡ cond (object == other) (Some value) (lookup (nat_eq other) far)) → (other : ℕ)
    → or_other (slice_index_or near other None) (lookup (nat_eq other) now) ≡ cond (object == other) (Some value) (value_of map other)
set_far map near far now spare object value is past puts other =
    ap (λ o. or_other (slice_index_or near other None) o) (puts other) ∙ far_at near far object other value past
    ∙ ap (λ m. cond (object == other) (Some value) (value_of m other)) is

-- a table that has grown has the values that it had
none_further : {V : Type 0} → (n i : ℕ) → slice_index_or (replicate {A = Option V} n None) i None ≡ None
none_further zero i = refl
none_further (suc n) zero = refl
none_further (suc n) (suc i) = none_further n i

grown_at : {V : Type 0} → (near : List (Option V)) (more object : ℕ) → slice_index_or (near ++ replicate more None) object None ≡ slice_index_or near object None
grown_at near more object =
    elim (cases_lt object (length near)) [
      | inl within ↦ get_or_append_left near (replicate more None) None object within
      | inr past ↦ get_or-append_right near (replicate more None) (length near) object None refl past ∙ none_further more (object - length near) ∙ sym (get_or_past near object None past)
    ]

pub same_grown : {V : Type 0} → (map : Values V) (near now : List (Option V)) (far : List (ℕ × V)) (spare len more : ℕ)
    → (let shown : Values V = record { near = near; far = far; spare = spare } in shown ≡ map)
    → length near ≤ len → now ≡ take len near ++ replicate more None → (object : ℕ)
    → or_other (slice_index_or now object None) (lookup (nat_eq object) far) ≡ value_of map object
same_grown map near now far spare len more is longer grown object =
    ap (λ xs. or_other (slice_index_or xs object None) (lookup (nat_eq object) far)) (grown ∙ ap (λ xs. xs ++ replicate more None) (take_all len near longer))
    ∙ ap (λ o. or_other o (lookup (nat_eq object) far)) (grown_at near more object) ∙ ap (λ m. value_of m object) is
