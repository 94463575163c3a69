-- What the scans of a list of accesses find.
use Rattle.std.proofs.Common.{◌≡◌, ℕ, zero, suc, ◌+◌, ◌<◌, inl, inr, Bool, true, false, cond, ◌==◌, ◌&&◌, List, [], ◌∷◌, ◌++◌, length, map, take, set, fold, Some, None, slice_index_or, refl, sym, ap₂, ◌∙◌, arith}
use Rattle.std.proofs.lemmas.Bool.{cases_Bool, and_parts, and_from, true≢false}
use Rattle.std.proofs.lemmas.List.{take_more_set}
use Rattle.std.proofs.lemmas.List.FromFn.{map-range_with_len_more}
use Rattle.ranked_list.specs.Table.{top_grade}
use Rattle.topk_theory.specs.declared.access.Access.{Access}
use Rattle.topk_theory.specs.declared.access.Access.TheVariants.{Sorted, Random}
use Rattle.topk_theory.specs.Transcript.{list_of, object_of, grade_of, is_sorted, last_grade, sorted_rows, bottom_of, list_numbers}
use Rattle.topk_theory.specs.Bounds.{known_grade}

-- the access is of the list and the object
abbrev pub is_of : ℕ → ℕ → Access → Bool
is_of list object access = list_of access == list && object_of access == object

-- a grade is unknown as long as no access is of the list and the object, and the first that is gave it
pub known_grade_skips : (A : List Access) (a : Access) (list object : ℕ) → is_of list object a ≡ false
    → known_grade (a ∷ A) object list ≡ known_grade A object list
known_grade_skips A a list object e =
    elim (cases_Bool (list_of a == list)) [
      | inl t ↦ elim (cases_Bool (object_of a == object)) [
        | inl u ↦ absurd (true≢false (sym (and_from (list_of a == list) (object_of a == object) t u) ∙ e))
        | inr u ↦ simp (t, u)
      ]
      | inr f ↦ simp f
    ]

pub known_grade_meets : (A : List Access) (a : Access) (list object : ℕ) → is_of list object a ≡ true → known_grade (a ∷ A) object list ≡ Some (grade_of a)
known_grade_meets A a list object e =
    let both = and_parts (list_of a == list) (object_of a == object) e in
    let t = both.0 in
    let u = both.1 in
    simp (t, u)

pub known_grade_none : (A : List Access) (list object : ℕ) → ((k : ℕ) (d : Access) → k < length A → is_of list object (slice_index_or A k d) ≡ false)
    → known_grade A object list ≡ None
known_grade_none [] list object h = refl
known_grade_none (a ∷ A) list object h =
    known_grade_skips A a list object (h 0 a (omega arith)) ∙ known_grade_none A list object (λ k d l. h (suc k) d (omega arith))

pub known_grade_at : (A : List Access) (i : ℕ) (d : Access) (list object : ℕ) → i < length A
    → ((k : ℕ) (e : Access) → k < i → is_of list object (slice_index_or A k e) ≡ false) → is_of list object (slice_index_or A i d) ≡ true
    → known_grade A object list ≡ Some (grade_of (slice_index_or A i d))
known_grade_at [] i d list object l h e = absurd (omega arith)
known_grade_at (a ∷ A) zero d list object l h e = known_grade_meets A a list object e
known_grade_at (a ∷ A) (suc i) d list object l h e =
    known_grade_skips A a list object (h 0 a (omega arith)) ∙ known_grade_at A i d list object (omega arith) (λ k f m. h (suc k) f (omega arith)) e

-- the bottom is what the sorted accesses of the list leave
bottom_from : (list above : ℕ) (A : List Access)
    → last_grade above (sorted_rows list A) ≡ fold (λ bottom access. cond (is_sorted access && (list_of access == list)) (grade_of access) bottom) above A
bottom_from list above [] = refl
bottom_from list above (Sorted other object grade ∷ A) =
    elim (cases_Bool (other == list)) [
      | inl t ↦ simp t (bottom_from list grade A)
      | inr f ↦ simp f (bottom_from list above A)
    ]
bottom_from list above (Random other object grade ∷ A) = bottom_from list above A

pub bottom_of_folded : (list : ℕ) (A : List Access)
    → bottom_of list A ≡ fold (λ bottom access. cond (is_sorted access && (list_of access == list)) (grade_of access) bottom) top_grade A
bottom_of_folded list A = bottom_from list top_grade A

-- one more list
pub listed_more : {X : Type 0} (f : ℕ → X) (xs : List X) (k : ℕ) (y : X) → k < length xs → y ≡ f k → take k xs ≡ map f (list_numbers k)
    → take (k + 1) (set xs k y) ≡ map f (list_numbers (k + 1))
listed_more f xs k y l e h =
    take_more_set xs k y l ∙ ap₂ (λ zs z. zs ++ z ∷ []) h e ∙ sym (map-range_with_len_more f 0 k k (omega arith))
