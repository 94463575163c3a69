-- Transcripts: the accesses of a query in their order, with the grades that they gave. Lists count from 0.
use Rattle.std.specs.Prelude.{◌≡◌, ◌<◌, ◌==◌, ◌+◌, ◌*◌, ℕ, max, Bool, true, false, not, List, [], ◌∷◌, ◌++◌, length, map, take, All, Contains, Option, Some, None, if◌then◌else◌, count_by, filter_map, fold, slice_get}
use Rattle.std.specs.List.{range_with_len, slice_index_or, list_any}
use Rattle.ranked_list.specs.declared.row.Row.{Row}
use Rattle.ranked_list.specs.Table.{IsTable, top_grade}
use Rattle.topk_theory.specs.declared.access.Access.{Access}
use Rattle.topk_theory.specs.declared.access.Access.TheVariants.{Sorted, Random}

-- the list that an access reads, and the object that it names
abbrev pub list_of : Access → ℕ
list_of (Sorted list object grade) = list
list_of (Random list object grade) = list

abbrev pub object_of : Access → ℕ
object_of (Sorted list object grade) = object
object_of (Random list object grade) = object

abbrev pub grade_of : Access → ℕ
grade_of (Sorted list object grade) = grade
grade_of (Random list object grade) = grade

abbrev pub is_sorted : Access → Bool
is_sorted (Sorted list object grade) = true
is_sorted (Random list object grade) = false

-- the row of a list that an access gave: by sorted access, by random access, by either
abbrev pub sorted_row : ℕ → Access → Option Row
sorted_row list (Sorted other object grade) = if other == list then Some (record { object = object; grade = grade }) else None
sorted_row list (Random other object grade) = None

abbrev pub random_row : ℕ → Access → Option Row
random_row list (Sorted other object grade) = None
random_row list (Random other object grade) = if other == list then Some (record { object = object; grade = grade }) else None

abbrev pub given_row : ℕ → Access → Option Row
given_row list access = if list_of access == list then Some (record { object = object_of access; grade = grade_of access }) else None

-- the rows that sorted accesses of A gave from a list, in their order; those that random accesses gave; those that any access gave
abbrev pub sorted_rows : ℕ → List Access → List Row
sorted_rows list A = filter_map (sorted_row list) A

abbrev pub random_rows : ℕ → List Access → List Row
random_rows list A = filter_map (random_row list) A

abbrev pub given_rows : ℕ → List Access → List Row
given_rows list A = filter_map (given_row list) A

-- the list of a table with this number
abbrev pub list_at : List (List Row) → ℕ → List Row
list_at D list = slice_index_or D list []

-- the front is how the whole begins
abbrev pub Begins : {X : Type 0} → List X → List X → Type 0
Begins front whole = take (length front) whole ≡ front

-- what is told of lists: of each its first rows, in their order, and the rows of it whose grades are known
pub record Told : Type 0 where
  pub rows : List (List Row)
  pub known : List (List Row)

-- whole lists are told: of each all rows, and each row is known
abbrev pub whole : List (List Row) → Told
whole D = record { rows = D; known = D }

-- the accesses are drawn from what is told of m lists: the sorted ones of each gave its first rows, and each random one a row that is known
pub record IsDrawn (m : ℕ) (T : Told) (A : List Access) : Type 0 where
  pub in_range : All (λ access. list_of access < m) A
  pub sorted : (list : ℕ) → list < m → Begins (sorted_rows list A) (list_at T.rows list)
  pub random : (list : ℕ) → list < m → All (Contains (list_at T.known list)) (random_rows list A)

-- of m lists more is told: the rows of each go on, and what is known stays known
pub record Grows (m : ℕ) (T U : Told) : Type 0 where
  pub rows : (list : ℕ) → list < m → Begins (list_at T.rows list) (list_at U.rows list)
  pub known : (list : ℕ) → list < m → (row : Row) → Contains (list_at T.known list) row → Contains (list_at U.known list) row

-- the table agrees with the transcript: it has m lists of n rows, and the accesses are drawn from them
pub record Agrees (m n : ℕ) (D : List (List Row)) (A : List Access) : Type 0 where
  pub lists : length D ≡ m
  pub table : IsTable n D
  pub drawn : IsDrawn m (whole D) A

-- the members of a list, each where it comes first
abbrev pub each_once_after : List ℕ → List ℕ → List ℕ
each_once_after before [] = []
each_once_after before (x ∷ xs) = if list_any (λ y. y == x) before then each_once_after before xs else x ∷ each_once_after (before ++ x ∷ []) xs

abbrev pub each_once : List ℕ → List ℕ
each_once xs = each_once_after [] xs

-- the objects that the accesses of A name, each once in the order in which they are first named;
-- the seen ones, which sorted accesses gave, each once in the order of first sight
abbrev pub named_objects : List Access → List ℕ
named_objects A = each_once (map object_of A)

abbrev pub sorted_object : Access → Option ℕ
sorted_object (Sorted list object grade) = Some object
sorted_object (Random list object grade) = None

abbrev pub seen_objects : List Access → List ℕ
seen_objects A = each_once (filter_map sorted_object A)

-- each random access names an object that an earlier sorted access gave: no wild guess
abbrev pub IsTame : List Access → Type 0
IsTame A = (earlier later : List Access) (list object grade : ℕ) → A ≡ earlier ++ Random list object grade ∷ later → Contains (seen_objects earlier) object

-- the numbers of m lists
abbrev pub list_numbers : ℕ → List ℕ
list_numbers m = range_with_len 0 m

-- how many sorted accesses read a list; the greatest such number over m lists
abbrev pub depth_of : ℕ → List Access → ℕ
depth_of list A = length (sorted_rows list A)

-- this access is given after those of A: a sorted one is the next row of its list, a random one some row of it that is known
abbrev pub Gives : Told → List Access → Access → Type 0
Gives T A (Sorted list object grade) = slice_get (list_at T.rows list) (depth_of list A) ≡ Some (record { object = object; grade = grade })
Gives T A (Random list object grade) = Contains (list_at T.known list) (record { object = object; grade = grade })

abbrev pub depth : ℕ → List Access → ℕ
depth m A = fold max 0 (map (λ list. depth_of list A) (list_numbers m))

-- the last grade of the rows, or else the grade above them
abbrev pub last_grade : ℕ → List Row → ℕ
last_grade above [] = above
last_grade above (row ∷ rows) = last_grade row.grade rows

-- the bottom of a list: the last grade that a sorted access read from it, and the greatest grade before the first
abbrev pub bottom_of : ℕ → List Access → ℕ
bottom_of list A = last_grade top_grade (sorted_rows list A)

-- how many accesses were sorted and how many random, and what they cost at these costs
abbrev pub sorted_count : List Access → ℕ
sorted_count A = count_by is_sorted A

abbrev pub random_count : List Access → ℕ
random_count A = count_by (λ access. not (is_sorted access)) A

abbrev pub cost : ℕ → ℕ → List Access → ℕ
cost each_sorted each_random A = sorted_count A * each_sorted + random_count A * each_random
