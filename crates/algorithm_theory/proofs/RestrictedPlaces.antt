-- Where an object that a row gives first is asked for: in the lists that can't be read in order, and in those where it stands lower.
use Rattle.std.proofs.Common.{◌≡◌, inl, inr, ℕ, suc, ◌<◌, ◌≤◌, Bool, true, false, not, ◌&&◌, cond, List, ◌++◌, length, take, filter, nat_lt, Contains, Option, Some, None, is_none, refl, sym, ap, subst, ◌∙◌, arith, eq-eqb}
use Rattle.std.proofs.lemmas.Bool.{ltb-true, ltb-false}
use Rattle.std.proofs.lemmas.List.Elements.{Contains-append_cases}
use Rattle.ranked_list.specs.declared.row.Row.{Row}
use Rattle.ranked_list.specs.Table.{IsTable, objects, place_in}
use Rattle.topk_theory.specs.declared.access.Access.{Access}
use Rattle.topk_theory.specs.declared.access.Access.TheVariants.{Sorted, Random}
use Rattle.topk_theory.specs.Aggregate.{objects_of}
use Rattle.topk_theory.specs.Transcript.{list_at, list_of, object_of, list_numbers, given_row, given_rows, sorted_row, sorted_rows, seen_objects, depth_of}
use Rattle.topk_theory.specs.Bounds.{known_grade}
use Rattle.topk_theory.specs.Combined.{unknown_lists}
use Rattle.topk_theory.proofs.AgreementLists.{contains_nil, contains_map_from}
use Rattle.topk_theory.proofs.AgreementRows.{objects_in_each, object_of_row, grade_among_none, grade_among_absent}
use Rattle.topk_theory.proofs.Agreement.{row_of, given_from, contains_middle, seen_in_table}
use Rattle.topk_theory.proofs.ListNumbers.{number_below}
use Rattle.topk_theory.proofs.ThresholdLists.{filter_same}
use Rattle.topk_theory.proofs.ThresholdRun.{contains_filter_map}
use Rattle.topk_theory.proofs.Unseen.{unseen_unknown}
use Rattle.algorithm_theory.proofs.FaginCommon.{place_of_front, front_of_place, read_known}
use Rattle.algorithm_theory.specs.Restricted.{row_of_first, must_ask, taz_run_to}
use Rattle.algorithm_theory.proofs.RestrictedReading.{IsRead, no_rows, row_read, run_read, depth_over}
use Rattle.algorithm_theory.proofs.RestrictedRuns.{row_sorted, run_tame}

-- what a transcript knows of an object that one before its last rows hadn't seen is what sorted accesses gave
given_there : (A : List Access) (a : Access) (list object : ℕ) → Contains A a → list_of a ≡ list → object_of a ≡ object → Contains (objects (given_rows list A)) object
given_there A a list object c l o =
    let row : Row = row_of a in
    subst (λ x. Contains (objects (given_rows list A)) x) o
    (object_of_row (given_rows list A) row (contains_filter_map (given_row list) A a row c (ap (λ b. cond b (Some row) None) (eq-eqb (list_of a) list l))))

sorted_there : (A : List Access) (a : Access) (list object : ℕ) → Contains A a → list_of a ≡ list → object_of a ≡ object
    → ((l o g : ℕ) → ¬ (a ≡ Random l o g)) → Contains (objects (sorted_rows list A)) object
sorted_there A (Random l o g) list object c e f never = absurd (never l o g refl)
sorted_there A (Sorted l o g) list object c e f never =
    let row : Row = record { object = o; grade = g } in
    subst (λ x. Contains (objects (sorted_rows list A)) x) f
    (object_of_row (sorted_rows list A) row (contains_filter_map (sorted_row list) A (Sorted l o g) row c (ap (λ b. cond b (Some row) None) (eq-eqb l list e))))

new_unknown : (Z : ℕ → Bool) (D : List (List Row)) (depth object list : ℕ) → ¬ Contains (seen_objects (taz_run_to Z D depth)) object
    → ¬ Contains (objects (sorted_rows list (taz_run_to Z D depth ++ row_of_first Z D (suc depth) (length D)))) object
    → known_grade (taz_run_to Z D depth ++ row_of_first Z D (suc depth) (length D)) object list ≡ None
new_unknown Z D depth object list new unread =
    let A : List Access = taz_run_to Z D depth in
    let row : List Access = row_of_first Z D (suc depth) (length D) in
    grade_among_absent (given_rows list (A ++ row)) object (λ c.
    let at = contains_map_from (λ (r : Row). r.object) (given_rows list (A ++ row)) object c in
    let from = given_from list (A ++ row) at.0 at.1 in
    let same : object_of from.1 ≡ object = ap (λ (r : Row). r.object) from.5 ∙ at.2 in
    let there : Contains (A ++ row) from.1 = subst (λ B. Contains B from.1) (sym from.3) (contains_middle from.0 from.1 from.2) in
    elim (Contains-append_cases A row from.1 there) [
      | inl before ↦ grade_among_none (given_rows list A) object (unseen_unknown A object list (run_tame Z D depth) new) (given_there A from.1 list object before from.4 same)
      | inr now ↦ unread (sorted_there (A ++ row) from.1 list object there from.4 same
          (λ l o g e. row_sorted Z D (suc depth) (length D) l o g (subst (λ x. Contains row x) e now)))
    ])

asked_there : (n : ℕ) (Z : ℕ → Bool) (D : List (List Row)) (depth object list : ℕ) → IsTable n D → suc depth ≤ n → list < length D
    → Contains (seen_objects (taz_run_to Z D depth ++ row_of_first Z D (suc depth) (length D))) object → ¬ Contains (seen_objects (taz_run_to Z D depth)) object
    → is_none (known_grade (taz_run_to Z D depth ++ row_of_first Z D (suc depth) (length D)) object list) ≡ must_ask Z D (suc depth) object list
asked_there n Z D depth object list t within l seen new = by_list (Z list) refl
  where
    R : List Access
    R = taz_run_to Z D depth ++ row_of_first Z D (suc depth) (length D)

    read : IsRead Z n D R (suc depth) 0
    read = depth_over Z n D R depth (row_read Z n D (taz_run_to Z D depth) depth (length D) t (omega arith) (omega arith) (run_read Z n depth D t (omega arith)))

    place : ℕ
    place = place_in (list_at D list) object

    rows : sorted_rows list R ≡ take (depth_of list R) (list_at D list)
    rows = sym (read.agrees.drawn.sorted list l)

    unknown : (¬ Contains (objects (sorted_rows list R)) object) → is_none (known_grade R object list) ≡ true
    unknown unread = ap (λ (o : Option ℕ). is_none o) (new_unknown Z D depth object list new unread)

    by_place : Z list ≡ true → (b : Bool) → nat_lt place (suc depth) ≡ b → is_none (known_grade R object list) ≡ not b
    by_place z true above =
        let deep : depth_of list R ≡ suc depth = read.from list (omega arith) l z in
        let here : Contains (objects_of D) object = seen_in_table (length D) n D R object read.agrees seen in
        read_known list R object (subst (λ rs. Contains (objects rs) object) (sym rows)
        (front_of_place (depth_of list R) (list_at D list) object (objects_in_each n D list object t l here) (let less = ltb-true place (suc depth) above in omega arith)))
    by_place z false below =
        let deep : depth_of list R ≡ suc depth = read.from list (omega arith) l z in
        unknown (λ c. let less = place_of_front (depth_of list R) (list_at D list) object (subst (λ rs. Contains (objects rs) object) rows c) in
        let more = ltb-false place (suc depth) below in absurd (omega arith))

    by_list : (b : Bool) → Z list ≡ b → is_none (known_grade R object list) ≡ must_ask Z D (suc depth) object list
    by_list true z =
        by_place z (nat_lt place (suc depth)) refl ∙ sym (ap (λ b. not (b && nat_lt place (suc depth))) z)
    by_list false f =
        unknown (λ c. contains_nil object (subst (λ rs. Contains (objects rs) object) (no_rows (sorted_rows list R) (read.none list f)) c))
        ∙ sym (ap (λ b. not (b && nat_lt place (suc depth))) f)

pub places_asked : (n depth object : ℕ) (Z : ℕ → Bool) (D : List (List Row)) → IsTable n D → suc depth ≤ n
    → Contains (seen_objects (taz_run_to Z D depth ++ row_of_first Z D (suc depth) (length D))) object → ¬ Contains (seen_objects (taz_run_to Z D depth)) object
    → unknown_lists (length D) (taz_run_to Z D depth ++ row_of_first Z D (suc depth) (length D)) object ≡ filter (must_ask Z D (suc depth) object) (list_numbers (length D))
places_asked n depth object Z D t within seen new =
    let R : List Access = taz_run_to Z D depth ++ row_of_first Z D (suc depth) (length D) in
    filter_same (λ list. is_none (known_grade R object list)) (must_ask Z D (suc depth) object) (list_numbers (length D))
    (λ list c. asked_there n Z D depth object list t within (number_below (length D) list c) seen new)
