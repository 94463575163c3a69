-- Which objects a transcript has seen, by their places in the lists and by how deep these were read.
use Rattle.std.proofs.Common.{◌≡◌, ◌↔◌, inl, inr, ℕ, ◌<◌, Bool, cond, List, [], ◌∷◌, ◌++◌, length, take, filter_map, Contains, Some, None, refl, sym, ap, subst, ◌∙◌, arith, eq-eqb, append-nil, append_assoc}
use Rattle.std.proofs.lemmas.Bool.{cases_Bool}
use Rattle.ranked_list.specs.declared.row.Row.{Row}
use Rattle.ranked_list.specs.Table.{objects, place_in}
use Rattle.topk_theory.specs.declared.access.Access.{Access}
use Rattle.topk_theory.specs.declared.access.Access.TheVariants.{Sorted, Random}
use Rattle.topk_theory.specs.Aggregate.{objects_of}
use Rattle.topk_theory.specs.Transcript.{Agrees, list_at, sorted_row, sorted_rows, sorted_object, seen_objects, depth_of}
use Rattle.topk_theory.specs.Threshold.{stands}
use Rattle.topk_theory.proofs.AgreementNames.{has, has_contains, has_not, each_once_complete}
use Rattle.topk_theory.proofs.AgreementRows.{objects_in_each, object_of_row}
use Rattle.topk_theory.proofs.Agreement.{agrees_in_range, seen_in_table, seen_objects_old, seen_objects_new, seen_objects_random}
use Rattle.topk_theory.proofs.NoRandomQuiet.{sorted_is_seen}
use Rattle.topk_theory.proofs.ThresholdLists.{contains_filter, contains_from_filter}
use Rattle.topk_theory.proofs.ThresholdRun.{access_from_seen, contains_filter_map}
use Rattle.algorithm_theory.proofs.FaginCommon.{place_of_front, front_of_place}
use Rattle.algorithm_theory.specs.Restricted.{part_in, taz_objects}
use Rattle.algorithm_theory.proofs.RestrictedLists.{stands_by, stands_at}
use Rattle.algorithm_theory.proofs.RestrictedReading.{IsRead}

-- a seen object stands in some list among the rows that were read
pub record IsPlaced (m : ℕ) (D : List (List Row)) (A : List Access) (object : ℕ) : Type 0 where
  pub list : ℕ
  pub listed : list < m
  pub placed : place_in (list_at D list) object < depth_of list A

pub seen_place : (m n : ℕ) (D : List (List Row)) (A : List Access) (object : ℕ) → Agrees m n D A → Contains (seen_objects A) object → IsPlaced m D A object
seen_place m n D A object h c =
    let from = access_from_seen A object c in
    let list : ℕ = from.0 in
    let l : list < m = agrees_in_range m n D A (Sorted list object from.1) h from.2 in
    let row : Row = record { object = object; grade = from.1 } in
    let held : Contains (sorted_rows list A) row = contains_filter_map (sorted_row list) A (Sorted list object from.1) row from.2 (ap (λ b. cond b (Some row) None) (eq-eqb list list refl)) in
    let front : Contains (objects (take (depth_of list A) (list_at D list))) object = subst (λ rows. Contains (objects rows) object) (sym (h.drawn.sorted list l)) (object_of_row (sorted_rows list A) row held) in
    record { list = list; listed = l; placed = place_of_front (depth_of list A) (list_at D list) object front }

pub place_seen : (m n : ℕ) (D : List (List Row)) (A : List Access) (object list : ℕ) → Agrees m n D A → list < m → Contains (objects_of D) object
    → place_in (list_at D list) object < depth_of list A → Contains (seen_objects A) object
place_seen m n D A object list h l here placed =
    let within : list < length D = subst (λ c. list < c) (sym h.lists) l in
    let front : Contains (objects (take (depth_of list A) (list_at D list))) object = front_of_place (depth_of list A) (list_at D list) object (objects_in_each n D list object h.table within here) placed in
    each_once_complete (filter_map sorted_object A) object (sorted_is_seen list object A (subst (λ rows. Contains (objects rows) object) (h.drawn.sorted list l) front))

-- down to a depth these are the objects that stand in a list of Z
pub seen_are_read : (Z : ℕ → Bool) (n : ℕ) (D : List (List Row)) (A : List Access) (depth : ℕ) → IsRead Z n D A depth 0 → (object : ℕ)
    → Contains (seen_objects A) object ↔ Contains (taz_objects Z D depth) object
seen_are_read Z n D A depth h object = (
  λ c.
      let at = seen_place (length D) n D A object h.agrees c in
      let there : Contains (objects_of D) object = seen_in_table (length D) n D A object h.agrees c in
      elim (cases_Bool (Z at.list)) [
        | inl z ↦ contains_filter (stands (part_in Z D) depth) (objects_of D) object there
            (stands_by Z D depth object at.list at.listed z (let deep : depth_of at.list A ≡ depth = h.from at.list (omega arith) at.listed z in omega (arith, at.placed)))
        | inr f ↦ (let none : depth_of at.list A ≡ 0 = h.none at.list f in absurd (omega (arith, at.placed)))
      ],
  λ c.
      let kept = contains_from_filter (stands (part_in Z D) depth) (objects_of D) object c in
      let at = stands_at Z D depth object kept.1 in
      place_seen (length D) n D A object at.list h.agrees at.listed kept.0
      (let deep : depth_of at.list A ≡ depth = h.from at.list (omega arith) at.listed at.sorted in omega (arith, at.placed)),
)

-- what was seen stays where it is, and new objects come behind it
pub seen_grows : (A B : List Access) → (new : List ℕ) × (seen_objects (A ++ B) ≡ seen_objects A ++ new)
seen_grows A [] = ([], ap seen_objects (append-nil A) ∙ sym (append-nil (seen_objects A)))
seen_grows A (Random list object grade ∷ B) =
    let more = seen_grows (A ++ Random list object grade ∷ []) B in
    (more.0, ap seen_objects (sym (append_assoc A (Random list object grade ∷ []) B)) ∙ more.1 ∙ ap (λ os. os ++ more.0) (seen_objects_random A list object grade))
seen_grows A (Sorted list object grade ∷ B) =
    let more = seen_grows (A ++ Sorted list object grade ∷ []) B in
    let way = ap seen_objects (sym (append_assoc A (Sorted list object grade ∷ []) B)) ∙ more.1 in
    elim (cases_Bool (has object (seen_objects A))) [
      | inl old ↦ (more.0, way ∙ ap (λ os. os ++ more.0) (seen_objects_old A list object grade (has_contains object (seen_objects A) old)))
      | inr new ↦ (object ∷ more.0, way ∙ ap (λ os. os ++ more.0) (seen_objects_new A list object grade (has_not object (seen_objects A) new)) ∙ append_assoc (seen_objects A) (object ∷ []) more.0)
    ]
