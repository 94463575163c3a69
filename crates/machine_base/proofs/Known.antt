-- An object whose grades are all known has its aggregate as its low.
use Rattle.std.proofs.Common.{◌≡◌, ℕ, ◌<◌, inl, inr, List, [], Contains, Option, Some, is_none, unwrap_or, sym, ap, subst, ◌∙◌}
use Rattle.ranked_list.specs.declared.row.Row.{Row}
use Rattle.ranked_list.specs.Table.{grade_in}
use Rattle.ranked_list.proofs.OptionLaws.{option_cases}
use Rattle.topk_theory.specs.declared.access.Access.{Access}
use Rattle.topk_theory.specs.Aggregate.{aggregate}
use Rattle.topk_theory.specs.Transcript.{Agrees, list_at, list_numbers}
use Rattle.topk_theory.specs.Bounds.{known_grade, low}
use Rattle.topk_theory.specs.Combined.{unknown_lists}
use Rattle.topk_theory.proofs.AgreementLists.{contains_nil}
use Rattle.topk_theory.proofs.Agreement.{known_grade_is}
use Rattle.topk_theory.proofs.BoundsLaws.{grades_by_number}
use Rattle.topk_theory.proofs.ListNumbers.{number_in, number_below}
use Rattle.topk_theory.proofs.ThresholdLists.{contains_filter, map_same}

known_there : (m : ℕ) (A : List Access) (object list : ℕ) → unknown_lists m A object ≡ [] → list < m → (grade : ℕ) × (known_grade A object list ≡ Some grade)
known_there m A object list none lt =
    elim (option_cases (known_grade A object list)) [
      | inl unknown ↦ absurd (
          let number : Contains (list_numbers m) list = number_in m list lt in
          let left : Contains (unknown_lists m A object) list = contains_filter (λ other. is_none (known_grade A object other)) (list_numbers m) list number (ap (λ (o : Option ℕ). is_none o) unknown) in
          contains_nil list (subst (λ xs. Contains xs list) none left))
      | inr some ↦ some
    ]

pub low_exact : (V : List ℕ → ℕ) (m n : ℕ) (D : List (List Row)) (A : List Access) (object : ℕ) → Agrees m n D A → unknown_lists m A object ≡ []
    → low V m A object ≡ aggregate V D object
low_exact V m n D A object agrees none =
    ap V (map_same (λ list. unwrap_or (known_grade A object list) 0) (λ list. grade_in (list_at D list) object) (list_numbers m) (λ list c.
    let lt = number_below m list c in
    let known = known_there m A object list none lt in
    ap (λ (o : Option ℕ). unwrap_or o 0) known.1 ∙ sym (known_grade_is m n D A object list known.0 agrees lt known.1))
    ∙ sym (grades_by_number m D object agrees.lists))
