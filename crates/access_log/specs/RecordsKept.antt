-- What is kept beside accesses: of one object, of the ends of the lists, and of the grades ahead of them.
use Rattle.std.specs.Prelude.{◌≡◌, ◌==◌, ℕ, ◌<◌, ◌≤◌, Bool, false, List, [], length, Option, Some, None, position, nat_eq, slice_get, if◌then◌else◌}
use Rattle.std.specs.List.{list_any, slice_index_or}
use Rattle.std.specs.Option.{option_and_then}
use Rattle.ranked_list.specs.Table.{objects}
use Rattle.topk_theory.specs.declared.access.Access.{Access}
use Rattle.topk_theory.specs.Transcript.{sorted_rows, depth_of, bottom_of, sorted_count, seen_objects}
use Rattle.topk_theory.specs.Bounds.{known_grade}
use Rattle.containers.specs.Ranks.{rank_at}
use Rattle.access_log.specs.declared.record.Record.{Record}
use Rattle.access_log.specs.declared.ends.Ends.{Ends}
use Rattle.topk_base.specs.declared.TheConstants.{MAX_LISTS}

-- whether a sorted access gave the object from the list
abbrev pub is_read : List Access → ℕ → ℕ → Bool
is_read A object list = list_any (λ other. other == object) (objects (sorted_rows list A))

-- the grade of an object that is known ahead of its list: the list hasn't given the object yet
abbrev pub grade_ahead : List Access → ℕ → ℕ → Option ℕ
grade_ahead A object list = if is_read A object list then None else known_grade A object list

-- the record is that of the object: in each of m lists its grade where it is known and whether the list gave it, and its place in the order of first sight
pub record IsRecordOf (m : ℕ) (A : List Access) (object : ℕ) (kept : Record) : Type 0 where
  pub sized : (length kept.known ≡ MAX_LISTS) × (length kept.read ≡ MAX_LISTS)
  pub known : (list : ℕ) → list < m → slice_index_or kept.known list None ≡ known_grade A object list
  pub read : (list : ℕ) → list < m → slice_index_or kept.read list false ≡ is_read A object list
  pub sight : kept.sight ≡ position (nat_eq object) (seen_objects A)

-- the ends are those of the m lists: their depths and their bottoms; and so many accesses were sorted
pub record AreEndsOf (m : ℕ) (A : List Access) (ends : Ends) : Type 0 where
  pub sized : (length ends.depths ≡ MAX_LISTS) × (length ends.bottoms ≡ MAX_LISTS)
  pub depths : (list : ℕ) → list < m → slice_index_or ends.depths list 0 ≡ depth_of list A
  pub bottoms : (list : ℕ) → list < m → slice_index_or ends.bottoms list 0 ≡ bottom_of list A
  pub sorted : ends.sorted ≡ sorted_count A

-- the heap of a list
abbrev pub heap_at : List (List (Option ℕ)) → ℕ → List (Option ℕ)
heap_at heaps list = slice_index_or heaps list []

-- the heaps hold, for each of m lists and by the places of the named objects, the grades that are known ahead of the list
pub record AreAhead (m : ℕ) (A : List Access) (names : List ℕ) (heaps : List (List (Option ℕ))) : Type 0 where
  pub sized : length heaps ≡ m
  pub grades : (list place : ℕ) → list < m → rank_at (heap_at heaps list) place ≡ option_and_then (λ object. grade_ahead A object list) (slice_get names place)

-- each heap has room for so many objects
abbrev pub HaveRoom : ℕ → List (List (Option ℕ)) → Type 0
HaveRoom room heaps = (list : ℕ) → list < length heaps → room ≤ length (heap_at heaps list)

-- each heap has the ranks that it had, and no less room
pub record AreWider (before after : List (List (Option ℕ))) : Type 0 where
  pub sized : length after ≡ length before
  pub ranks : (list place : ℕ) → rank_at (heap_at after list) place ≡ rank_at (heap_at before list) place
  pub room : (list : ℕ) → length (heap_at before list) ≤ length (heap_at after list)

-- this is the greatest grade that is known ahead of the list
abbrev pub IsGreatestAhead : List Access → ℕ → Option ℕ → Type 0
IsGreatestAhead A list None = (object : ℕ) → grade_ahead A object list ≡ None
IsGreatestAhead A list (Some grade) =
    ((object : ℕ) × (grade_ahead A object list ≡ Some grade)) × ((object other : ℕ) → grade_ahead A object list ≡ Some other → other ≤ grade)

-- the records are those of the objects at the same places
abbrev pub AreRecords : ℕ → List Access → List ℕ → List Record → Type 0
AreRecords m A names records =
    (length records ≡ length names)
    × ((place object : ℕ) (d : Record) → slice_get names place ≡ Some object → IsRecordOf m A object (slice_index_or records place d))
