-- The table of an adversary: over each set of objects it agrees, and the bounds of a transcript are reached in it.
use Rattle.std.proofs.Common.{◌≡◌, ◌≢◌, ℕ, ◌<◌, ◌≤◌, true, false, cond, ◌==◌, ◌+◌, zero, suc, List, ◌∷◌, length, map, Contains, unwrap_or, refl, sym, ap, subst, ◌∙◌, arith, eq-eqb}
use Rattle.std.specs.List.{range_with_len}
use Rattle.std.proofs.lemmas.Bool.{ne_eqb}
use Rattle.ranked_list.specs.declared.row.Row.{Row}
use Rattle.ranked_list.specs.Table.{grade_in}
use Rattle.topk_theory.specs.declared.access.Access.{Access}
use Rattle.monotone_fn.specs.Value.{IsMonotone}
use Rattle.topk_theory.specs.Aggregate.{objects_of, aggregate, grades_of}
use Rattle.topk_theory.specs.Transcript.{Agrees, list_at, list_numbers, named_objects, bottom_of}
use Rattle.topk_theory.specs.Bounds.{known_grade, low, high}
use Rattle.topk_theory.specs.Fixes.{IsOver, FixesOver}
use Rattle.topk_theory.specs.Consistent.{SomeAgrees}
use Rattle.topk_theory.specs.Adversary.{completed, MayBeObjects, CanComplete, IsCompletion, against, HoldsAgainst, BoundsPart}
use Rattle.topk_theory.proofs.AgreementLists.{all_from_members, member_of_all}
use Rattle.topk_theory.proofs.BoundsLaws.{grades_by_number, low_holds, high_holds}
use Rattle.topk_theory.proofs.ConsistentTable.{agrees_coherent, MayComplete, completed_agrees, completed_over, completed_grade}

may_complete : (choose : ℕ → ℕ → ℕ) (O : List ℕ) (m n : ℕ) (A : List Access) → CanComplete choose O m n A → MayComplete choose O m n A
may_complete choose O m n A h = record {
  coherent = agrees_coherent m n h.consistent.0 A h.consistent.1;
  over = h.over.is_set;
  named = λ object c. member_of_all (Contains O) (named_objects A) object h.over.named c;
  low = h.low;
}

-- the completed table
pub completed_is : (choose : ℕ → ℕ → ℕ) (O : List ℕ) (m n : ℕ) (A : List Access) → 0 < m → CanComplete choose O m n A
    → IsCompletion choose O m n A (completed choose O m A)
completed_is choose O m n A some h =
    let may = may_complete choose O m n A h in
    record {
      agrees = completed_agrees choose O m n A may;
      over = completed_over choose O m n A some may;
      grades = λ list object l c. completed_grade choose O m n A list object may l c;
    }

-- the bottoms are a choice, so some table over each set agrees
bottoms_complete : (O : List ℕ) (m n : ℕ) (A : List Access) → SomeAgrees m n A → MayBeObjects n A O
    → CanComplete (λ list object. bottom_of list A) O m n A
bottoms_complete O m n A some may = record { consistent = some; over = may; low = λ list object. omega arith }

pub agrees_over : (m n : ℕ) (A : List Access) (O : List ℕ) → 0 < m → SomeAgrees m n A → MayBeObjects n A O
    → (D : List (List Row)) × Agrees m n D A × IsOver O D
agrees_over m n A O lists some may =
    let D = completed (λ list object. bottom_of list A) O m A in
    let is = completed_is (λ list object. bottom_of list A) O m n A lists (bottoms_complete O m n A some may) in
    (D, is.agrees, is.over)

-- the choice against one object
against_inside : (inside : ℕ) (A : List Access) (list : ℕ) → against inside A list inside ≡ 0
against_inside inside A list = ap (λ b. cond b 0 (bottom_of list A)) (eq-eqb inside inside refl)

against_other : (inside : ℕ) (A : List Access) (list object : ℕ) → object ≢ inside → against inside A list object ≡ bottom_of list A
against_other inside A list object d = ap (λ b. cond b 0 (bottom_of list A)) (ne_eqb object inside d)

against_low : (inside : ℕ) (A : List Access) (list object : ℕ) → against inside A list object ≤ bottom_of list A
against_low inside A list object = elim (object == inside) as (λ b. cond b 0 (bottom_of list A) ≤ bottom_of list A) [ true ↦ omega arith | false ↦ omega arith ]

pub against_complete : (inside : ℕ) (O : List ℕ) (m n : ℕ) (A : List Access) → SomeAgrees m n A → MayBeObjects n A O
    → CanComplete (against inside A) O m n A
against_complete inside O m n A some may = record { consistent = some; over = may; low = λ list object. against_low inside A list object }

-- grades by the numbers of the lists, where they are the same in each list
pub same_places : (f g : ℕ → ℕ) (m start count : ℕ) → start + count ≡ m → ((k : ℕ) → k < m → f k ≡ g k)
    → map f (range_with_len start count) ≡ map g (range_with_len start count)
same_places f g m start zero e h = refl
same_places f g m start (suc count) e h =
    ap (λ x. x ∷ map f (range_with_len (start + 1) count)) (h start (omega arith))
    ∙ ap (λ xs. g start ∷ xs) (same_places f g m (start + 1) count (omega arith) h)

grades_are : (m : ℕ) (D : List (List Row)) (object : ℕ) (f : ℕ → ℕ) → length D ≡ m
    → ((list : ℕ) → list < m → grade_in (list_at D list) object ≡ f list) → grades_of D object ≡ map f (list_numbers m)
grades_are m D object f sized same = grades_by_number m D object sized ∙ same_places (λ list. grade_in (list_at D list) object) f m 0 m (omega arith) same

-- in the table against an object it has its low and every other object its high
pub holds_against : (V : List ℕ → ℕ) (m n : ℕ) (A : List Access) (O : List ℕ) (inside : ℕ) → 0 < m → SomeAgrees m n A → MayBeObjects n A O
    → HoldsAgainst V m n A O inside (completed (against inside A) O m A)
holds_against V m n A O inside lists some may =
    let D = completed (against inside A) O m A in
    let is = completed_is (against inside A) O m n A lists (against_complete inside O m n A some may) in
    record {
      agrees = is.agrees;
      over = is.over;
      lowest = λ c. ap V (grades_are m D inside (λ list. unwrap_or (known_grade A inside list) 0) is.agrees.lists
          (λ list l. is.grades list inside l c ∙ ap (λ g. unwrap_or (known_grade A inside list) g) (against_inside inside A list)));
      highest = λ object c d. ap V (grades_are m D object (λ list. unwrap_or (known_grade A object list) (bottom_of list A)) is.agrees.lists
          (λ list l. is.grades list object l c ∙ ap (λ g. unwrap_or (known_grade A object list) g) (against_other inside A list object d)));
    }

-- what fixes an answer over a set of objects
fixed_part : (V : List ℕ → ℕ) (k m n : ℕ) (O : List ℕ) (A : List Access) (Y : List ℕ) → 0 < m → SomeAgrees m n A → MayBeObjects n A O
    → FixesOver V k m n O A Y → (inside outside : ℕ) → Contains Y inside → Contains O outside → (¬ Contains Y outside)
    → high V m A outside ≤ low V m A inside
fixed_part V k m n O A Y lists some may fixes inside outside c o out =
    let D = completed (against inside A) O m A in
    let holds = holds_against V m n A O inside lists some may in
    let top = fixes.always D holds.agrees holds.over in
    let apart : outside ≢ inside = λ e. out (subst (λ y. Contains Y y) (sym e) c) in
    let here : Contains O inside = member_of_all (Contains O) Y inside fixes.members c in
    let le : aggregate V D outside ≤ aggregate V D inside = top.unbeaten inside outside c ((holds.over outside).1 o) out in
    let least : aggregate V D inside ≡ low V m A inside = holds.lowest here in
    let most : aggregate V D outside ≡ high V m A outside = holds.highest outside o apart in
    omega arith

pub fixes_parts : (V : List ℕ → ℕ) (k m n : ℕ) (O : List ℕ) (A : List Access) (Y : List ℕ) → 0 < m → SomeAgrees m n A → MayBeObjects n A O
    → FixesOver V k m n O A Y → BoundsPart V k m O A Y
fixes_parts V k m n O A Y lists some may fixes = record {
  sized = fixes.sized;
  distinct = fixes.distinct;
  members = fixes.members;
  part = fixed_part V k m n O A Y lists some may fixes;
}

pub parts_fix : (V : List ℕ → ℕ) (k m n : ℕ) (O : List ℕ) (A : List Access) (Y : List ℕ) → IsMonotone V → BoundsPart V k m O A Y
    → FixesOver V k m n O A Y
parts_fix V k m n O A Y monotone h = record {
  sized = h.sized;
  distinct = h.distinct;
  members = h.members;
  always = λ D agrees over. record {
    sized = h.sized;
    distinct = h.distinct;
    members = all_from_members (Contains (objects_of D)) Y (λ y c. (over y).1 (member_of_all (Contains O) Y y h.members c));
    unbeaten = λ inside outside c here out.
        let up : aggregate V D outside ≤ high V m A outside = high_holds V m n D A outside monotone agrees in
        let down : low V m A inside ≤ aggregate V D inside = low_holds V m n D A inside monotone agrees in
        let part : high V m A outside ≤ low V m A inside = h.part inside outside c ((over outside).0 here) out in
        omega arith;
  };
}
