-- The first unknown grade that objects have in a list: as the loop finds it, and what it names.
use Rattle.std.proofs.Common.{◌≡◌, ℕ, suc, ◌+◌, ◌≤◌, Bool, true, false, List, [], ◌∷◌, filter, length, drop, Contains, Option, Some, None, is_none, refl, sym, ap, subst, ◌∙◌, arith}
use Rattle.std.specs.List.{slice_get}
use Rattle.ranked_list.specs.declared.need.Need.{Need}
use Rattle.ranked_list.specs.declared.need.Need.TheVariants as needs
use Rattle.ranked_list.proofs.OptionLaws.{none_if_is_none}
use Rattle.topk_theory.specs.declared.access.Access.{Access}
use Rattle.topk_theory.specs.Bounds.{known_grade}
use Rattle.topk_theory.proofs.AgreementLists.{slice_get_contains}
use Rattle.topk_theory.proofs.ThresholdLists.{filter_here, filter_gone, contains_from_filter}
use Rattle.machine_base.specs.Certain.{unknown_among, grade_of_some, first_unknown}
use Rattle.machine_base.proofs.AskFrom.{nothing_behind}
use Rattle.machine_base.proofs.Fronts.{drop_here}

-- ---- as the loop finds it
pub unknown_here : (A : List Access) (objects : List ℕ) (list at object : ℕ) → slice_get objects at ≡ Some object → is_none (known_grade A object list) ≡ true
    → first_unknown A (drop at objects) list ≡ needs.Grade list object
unknown_here A objects list at object here unknown =
    ap (λ (os : List ℕ). first_unknown A os list) (drop_here objects at object here)
    ∙ ap (λ (os : List ℕ). grade_of_some list (slice_get os 0)) (filter_here (λ o. is_none (known_grade A o list)) object (drop (suc at) objects) unknown)

pub unknown_skips : (A : List Access) (objects : List ℕ) (list at object : ℕ) → slice_get objects at ≡ Some object → is_none (known_grade A object list) ≡ false
    → first_unknown A (drop at objects) list ≡ first_unknown A (drop (at + 1) objects) list
unknown_skips A objects list at object here known =
    let one : suc at ≡ at + 1 = omega arith in
    ap (λ (os : List ℕ). first_unknown A os list) (drop_here objects at object here)
    ∙ ap (λ (os : List ℕ). grade_of_some list (slice_get os 0)) (filter_gone (λ o. is_none (known_grade A o list)) object (drop (suc at) objects) known)
    ∙ ap (λ p. first_unknown A (drop p objects) list) one

pub unknown_over : (A : List Access) (objects : List ℕ) (list at : ℕ) → length objects ≤ at → first_unknown A (drop at objects) list ≡ needs.Done
unknown_over A objects list at l = ap (λ (os : List ℕ). first_unknown A os list) (nothing_behind objects at l)

-- ---- what it names
-- the need is the grade of such an object in this list, or none
abbrev pub Names : List Access → List ℕ → ℕ → Need → Type 0
Names A objects list (needs.Row other depth) = ⊥
Names A objects list (needs.Grade other object) = (other ≡ list) × Contains objects object × (known_grade A object list ≡ None)
Names A objects list needs.Done = Unit {0}

names_some : (A : List Access) (objects : List ℕ) (list : ℕ) (found : Option ℕ) → slice_get (unknown_among A objects list) 0 ≡ found → Names A objects list (grade_of_some list found)
names_some A objects list None e = tt
names_some A objects list (Some object) e =
    let kept = contains_from_filter (λ o. is_none (known_grade A o list)) objects object (slice_get_contains (unknown_among A objects list) 0 object e) in
    (refl, kept.0, none_if_is_none (known_grade A object list) kept.1)

pub first_unknown_names : (A : List Access) (objects : List ℕ) (list : ℕ) → Names A objects list (first_unknown A objects list)
first_unknown_names A objects list = names_some A objects list (slice_get (unknown_among A objects list) 0) refl
