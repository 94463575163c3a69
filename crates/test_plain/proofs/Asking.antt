-- The unknown grades of an object, list by list.
use Rattle.std.proofs.Common.{◌≡◌, ℕ, zero, suc, ◌+◌, ◌<◌, true, false, cond, List, [], ◌∷◌, ◌++◌, length, map, Contains, is_none, refl, sym, ap, ◌∙◌, arith, append_assoc, append-nil, nat_lt, slice_index_or}
use Rattle.std.proofs.lemmas.Bool.{lt-ltb}
use Rattle.std.proofs.lemmas.List.{map-append}
use Rattle.ranked_list.specs.declared.row.Row.{Row}
use Rattle.ranked_list.specs.Table.{grade_in}
use Rattle.topk_theory.specs.declared.access.Access.{Access}
use Rattle.topk_theory.specs.declared.access.Access.TheVariants.{Random}
use Rattle.topk_theory.specs.Transcript.{list_at, list_numbers}
use Rattle.topk_theory.specs.Bounds.{known_grade}
use Rattle.topk_theory.specs.Combined.{unknown_lists}
use Rattle.topk_theory.proofs.ListNumbers.{number_in}
use Rattle.topk_theory.proofs.ThresholdLists.{contains_filter}
use Rattle.topk_theory.proofs.UnknownLists.{unknown_split}

-- some list has an unknown grade
pub some_open : (n list : ℕ) (A : List Access) (object : ℕ) → list < n → is_none (known_grade A object list) ≡ true
    → nat_lt 0 (length (unknown_lists n A object)) ≡ true
some_open n list A object l unknown =
    let c : Contains (unknown_lists n A object) list = contains_filter (λ other. is_none (known_grade A object other)) (list_numbers n) list (number_in n list l) unknown in
    lt-ltb 0 (length (unknown_lists n A object)) (let within = c.1 in omega (arith, within))

pub none_open : (n : ℕ) (A : List Access) (object : ℕ) → unknown_lists n A object ≡ [] → nat_lt 0 (length (unknown_lists n A object)) ≡ false
none_open n A object none = ap (λ (xs : List ℕ). nat_lt 0 (length xs)) none

-- the random accesses in the first lists
abbrev pub missing_so_far : List (List Row) → List Access → ℕ → ℕ → List Access
missing_so_far D A object n = map (λ list. Random list object (grade_in (list_at D list) object)) (unknown_lists n A object)

missing_more : (D : List (List Row)) (A : List Access) (object n : ℕ) → missing_so_far D A object (n + 1)
    ≡ missing_so_far D A object n ++ cond (is_none (known_grade A object n)) (Random n object (grade_in (list_at D n) object) ∷ []) []
missing_more D A object n =
    ap (map (λ list. Random list object (grade_in (list_at D list) object))) (unknown_split n 1 A object)
    ∙ map-append (λ list. Random list object (grade_in (list_at D list) object)) (unknown_lists n A object) (cond (is_none (known_grade A object n)) (n ∷ []) [])
    ∙ ap (λ xs. missing_so_far D A object n ++ xs) (elim (is_none (known_grade A object n)) as (λ t. map (λ list. Random list object (grade_in (list_at D list) object)) (cond {A = List ℕ} t (n ∷ []) []) ≡ cond {A = List Access} t (Random n object (grade_in (list_at D n) object) ∷ []) []) [ true ↦ refl | false ↦ refl ])

-- one more list, behind what was there before
pub missing_next : (D : List (List Row)) (A before old new : List Access) (object n : ℕ) (rows : List Row) → rows ≡ list_at D n
    → new ≡ cond (is_none (known_grade A object n)) (old ++ Random n object (grade_in rows object) ∷ []) old
    → old ≡ before ++ missing_so_far D A object n → new ≡ before ++ missing_so_far D A object (n + 1)
missing_next D A before old new object n rows same e h =
    e ∙ ap (λ r. cond (is_none (known_grade A object n)) (old ++ Random n object (grade_in r object) ∷ []) old) same
    ∙ (elim (is_none (known_grade A object n)) as (λ t. cond {A = List Access} t (old ++ Random n object (grade_in (list_at D n) object) ∷ []) old ≡ old ++ cond {A = List Access} t (Random n object (grade_in (list_at D n) object) ∷ []) []) [ true ↦ refl | false ↦ sym (append-nil old) ])
    ∙ ap (λ xs. xs ++ cond {A = List Access} (is_none (known_grade A object n)) (Random n object (grade_in (list_at D n) object) ∷ []) []) h
    ∙ append_assoc before (missing_so_far D A object n) (cond (is_none (known_grade A object n)) (Random n object (grade_in (list_at D n) object) ∷ []) [])
    ∙ ap (λ xs. before ++ xs) (sym (missing_more D A object n))

-- the list with this number
pub at_list : (D : List (List Row)) (n : ℕ) (rows d : List Row) → n < length D → rows ≡ slice_index_or D n d → rows ≡ list_at D n
at_list D n rows d l e = e ∙ any_default D n d [] l
  where
    any_default : (E : List (List Row)) (i : ℕ) (a b : List Row) → i < length E → slice_index_or E i a ≡ slice_index_or E i b
    any_default [] i a b l = absurd (omega arith)
    any_default (xs ∷ E) zero a b l = refl
    any_default (xs ∷ E) (suc i) a b l = any_default E i a b (omega arith)
