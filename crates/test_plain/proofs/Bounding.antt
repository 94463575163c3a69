-- The bounds of an object, from the grades that are known and the bottoms.
use Rattle.std.proofs.Common.{◌≡◌, ℕ, suc, ◌≤◌, inl, inr, ◌==◌, List, [], ◌∷◌, map, Option, unwrap_or, sym, ap, ap₂, subst, ◌∙◌, arith}
use Rattle.std.proofs.lemmas.Bool.{cases_Bool}
use Rattle.ranked_list.specs.Table.{top_grade}
use Rattle.topk_theory.specs.declared.access.Access.{Access}
use Rattle.topk_theory.specs.declared.access.Access.TheVariants.{Sorted, Random}
use Rattle.topk_theory.specs.Transcript.{last_grade, sorted_rows, bottom_of, list_numbers}
use Rattle.topk_theory.specs.Bounds.{known_grade, low, high}
use Rattle.topk_theory.proofs.AgreementLists.{contains_map_from, all_from_members}
use Rattle.topk_theory.proofs.BoundsLaws.{bottoms_filled}
use Rattle.topk_theory.proofs.ThresholdLists.{map_map}
use Rattle.monotone_fn.specs.Tree.{Tree}
use Rattle.monotone_fn.specs.Value as expression
use Rattle.monotone_fn.specs.Limits.{AreGrades, AreGradesWhereKnown}
use Rattle.test_plain.specs.Capped.{AreCapped}
use Rattle.test_plain.proofs.Scanning.{is_of, known_grade_skips, known_grade_meets}

capped_rest : (a : Access) (A : List Access) → AreCapped (a ∷ A) → AreCapped A
capped_rest a A h k d l = h (suc k) d (omega arith)

-- a known grade is a grade, and so is a bottom
known_at_most : (A : List Access) (object list : ℕ) → AreCapped A → unwrap_or (known_grade A object list) 0 ≤ top_grade
known_at_most [] object list h = omega arith
known_at_most (a ∷ A) object list h =
    elim (cases_Bool (is_of list object a)) [
      | inl t ↦ subst (λ o. unwrap_or o 0 ≤ top_grade) (sym (known_grade_meets A a list object t)) (h 0 a (omega arith))
      | inr f ↦ subst (λ o. unwrap_or o 0 ≤ top_grade) (sym (known_grade_skips A a list object f)) (known_at_most A object list (capped_rest a A h))
    ]

last_at_most : (list above : ℕ) (A : List Access) → above ≤ top_grade → AreCapped A → last_grade above (sorted_rows list A) ≤ top_grade
last_at_most list above [] l h = l
last_at_most list above (Sorted other object grade ∷ A) l h =
    let g : grade ≤ top_grade = h 0 (Sorted other object grade) (omega arith) in
    elim (cases_Bool (other == list)) [
      | inl t ↦ simp t (last_at_most list grade A g (capped_rest (Sorted other object grade) A h))
      | inr f ↦ simp f (last_at_most list above A l (capped_rest (Sorted other object grade) A h))
    ]
last_at_most list above (Random other object grade ∷ A) l h = last_at_most list above A l (capped_rest (Random other object grade) A h)

pub known_capped : (A : List Access) (m object : ℕ) (xs : List (Option ℕ)) → AreCapped A → xs ≡ map (λ list. known_grade A object list) (list_numbers m)
    → AreGradesWhereKnown xs
known_capped A m object xs h e =
    subst AreGradesWhereKnown (sym e)
    (all_from_members (λ g. unwrap_or g 0 ≤ top_grade) (map (λ list. known_grade A object list) (list_numbers m)) (λ g c.
    let from = contains_map_from (λ list. known_grade A object list) (list_numbers m) g c in
    subst (λ o. unwrap_or o 0 ≤ top_grade) from.2 (known_at_most A object from.0 h)))

pub bottoms_capped : (A : List Access) (m : ℕ) (xs : List ℕ) → AreCapped A → xs ≡ map (λ list. bottom_of list A) (list_numbers m) → AreGrades xs
bottoms_capped A m xs h e =
    subst AreGrades (sym e)
    (all_from_members (λ g. g ≤ top_grade) (map (λ list. bottom_of list A) (list_numbers m)) (λ g c.
    let from = contains_map_from (λ list. bottom_of list A) (list_numbers m) g c in
    subst (λ b. b ≤ top_grade) from.2 (last_at_most from.0 top_grade A (omega arith) h)))

-- the bounds are the values at these
pub low_answer : (e : Tree) (m : ℕ) (A : List Access) (object r : ℕ) (xs : List (Option ℕ)) → xs ≡ map (λ list. known_grade A object list) (list_numbers m)
    → r ≡ expression.low e xs → r ≡ low (expression.value e) m A object
low_answer e m A object r xs f g =
    g ∙ ap (expression.low e) f ∙ ap (expression.value e) (map_map (λ grade. unwrap_or grade 0) (λ list. known_grade A object list) (list_numbers m))

pub high_answer : (e : Tree) (m : ℕ) (A : List Access) (object r : ℕ) (xs : List (Option ℕ)) (ys : List ℕ)
    → xs ≡ map (λ list. known_grade A object list) (list_numbers m) → ys ≡ map (λ list. bottom_of list A) (list_numbers m) → r ≡ expression.high e xs ys
    → r ≡ high (expression.value e) m A object
high_answer e m A object r xs ys f b g =
    g ∙ ap₂ (expression.high e) f b ∙ ap (expression.value e) (bottoms_filled (λ list. known_grade A object list) (λ list. bottom_of list A) (list_numbers m))
