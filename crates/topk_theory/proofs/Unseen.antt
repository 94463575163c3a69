-- The objects that no access names, and those that a tame transcript hasn't seen: nothing is known of them, so their high is the threshold.
use Rattle.std.proofs.Common.{◌≡◌, ℕ, inl, inr, List, ◌∷◌, ◌++◌, map, Contains, None, unwrap_or, sym, ap, subst, arith}
use Rattle.ranked_list.specs.declared.row.Row.{Row}
use Rattle.ranked_list.proofs.OptionLaws.{option_cases}
use Rattle.topk_theory.specs.declared.access.Access.{Access}
use Rattle.topk_theory.specs.declared.access.Access.TheVariants.{Sorted, Random}
use Rattle.topk_theory.specs.Transcript.{IsTame, list_numbers, seen_objects, named_objects, given_rows, bottom_of}
use Rattle.topk_theory.specs.Bounds.{known_grade, low, high, threshold}
use Rattle.topk_theory.proofs.AgreementLists.{contains_map_from}
use Rattle.topk_theory.proofs.AgreementRows.{grade_among_row, grade_among_absent}
use Rattle.topk_theory.proofs.Agreement.{row_of, given_from, contains_middle}
use Rattle.topk_theory.proofs.Adversary.{same_places}
use Rattle.topk_theory.proofs.ConsistentTable.{given_named}
use Rattle.topk_theory.proofs.ThresholdRun.{seen_from_access, seen_more}

pub unnamed_unknown : (A : List Access) (object list : ℕ) → (¬ Contains (named_objects A) object) → known_grade A object list ≡ None
unnamed_unknown A object list unnamed = grade_among_absent (given_rows list A) object (λ c.
    let from = contains_map_from (λ (row : Row). row.object) (given_rows list A) object c in
    unnamed (subst (λ o. Contains (named_objects A) o) from.2 (given_named list A from.0 from.1)))

seen_here : (A : List Access) (object : ℕ) (before : List Access) (a : Access) (after : List Access) → IsTame A
    → A ≡ before ++ a ∷ after → (row_of a).object ≡ object → Contains (seen_objects A) object
seen_here A object before (Sorted l o g) after tame e same = subst (λ p. Contains (seen_objects A) p) same (seen_from_access A l o g (subst (λ B. Contains B (Sorted l o g)) (sym e) (contains_middle before (Sorted l o g) after)))
seen_here A object before (Random l o g) after tame e same = subst (λ p. Contains (seen_objects A) p) same (subst (λ B. Contains (seen_objects B) o) (sym e) (seen_more before (Random l o g ∷ after) o (tame before after l o g e)))

pub unseen_unknown : (A : List Access) (object list : ℕ) → IsTame A → (¬ Contains (seen_objects A) object) → known_grade A object list ≡ None
unseen_unknown A object list tame unseen =
    elim (option_cases (known_grade A object list)) [
      | inl none ↦ none
      | inr some ↦ absurd (
          let from = given_from list A (record { object = object; grade = some.0 }) (grade_among_row (given_rows list A) object some.0 some.1) in
          unseen (seen_here A object from.0 from.1 from.2 tame from.3 (ap (λ (z : Row). z.object) from.5)))
    ]

high_unknown : (V : List ℕ → ℕ) (m : ℕ) (A : List Access) (object : ℕ) → ((list : ℕ) → known_grade A object list ≡ None) → high V m A object ≡ threshold V m A
high_unknown V m A object none =
    ap V (same_places (λ list. unwrap_or (known_grade A object list) (bottom_of list A)) (λ list. bottom_of list A) m 0 m (omega arith)
    (λ list l. ap (λ o. unwrap_or o (bottom_of list A)) (none list)))

pub high_unnamed : (V : List ℕ → ℕ) (m : ℕ) (A : List Access) (object : ℕ) → (¬ Contains (named_objects A) object) → high V m A object ≡ threshold V m A
high_unnamed V m A object unnamed = high_unknown V m A object (λ list. unnamed_unknown A object list unnamed)

pub unseen_high : (V : List ℕ → ℕ) (m : ℕ) (A : List Access) (object : ℕ) → IsTame A → (¬ Contains (seen_objects A) object)
    → high V m A object ≡ threshold V m A
unseen_high V m A object tame unseen = high_unknown V m A object (λ list. unseen_unknown A object list tame unseen)

-- and their low is the value at zeros
pub unseen_low : (V : List ℕ → ℕ) (m : ℕ) (A : List Access) (object : ℕ) → IsTame A → (¬ Contains (seen_objects A) object)
    → low V m A object ≡ V (map (λ list. 0) (list_numbers m))
unseen_low V m A object tame unseen =
    ap V (same_places (λ list. unwrap_or (known_grade A object list) 0) (λ list. 0) m 0 m (omega arith)
    (λ list l. ap (λ o. unwrap_or o 0) (unseen_unknown A object list tame unseen)))
