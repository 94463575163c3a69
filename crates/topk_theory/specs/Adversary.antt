-- The table of an adversary: it agrees with a transcript, and has grades of the adversary's choice wherever no access gave one.
use Rattle.std.specs.Prelude.{◌≡◌, ◌≢◌, ◌<◌, ◌≤◌, ◌==◌, ◌-◌, ◌⊎◌, ℕ, Bool, not, ◌&&◌, ◌||◌, List, [], ◌∷◌, ◌++◌, length, map, take, filter, All, AllPairs, Contains, unwrap_or, nat_lt, if◌then◌else◌}
use Rattle.std.specs.List.{range_with_len, list_any}
use Rattle.ranked_list.specs.declared.row.Row.{Row}
use Rattle.ranked_list.specs.Table.{objects, grade_in}
use Rattle.topk_theory.specs.declared.access.Access.{Access}
use Rattle.topk_theory.specs.Aggregate.{aggregate}
use Rattle.topk_theory.specs.Transcript.{Agrees, list_at, list_numbers, sorted_rows, named_objects, bottom_of}
use Rattle.topk_theory.specs.Bounds.{known_grade, low, high}
use Rattle.topk_theory.specs.Fixes.{IsObjectSet, IsOver}
use Rattle.topk_theory.specs.Consistent.{SomeAgrees}

-- a row stands above another: its grade is greater, or at equal grades its object's number is smaller
abbrev pub StandsAbove : Row → Row → Type 0
StandsAbove above below = (below.grade < above.grade) ⊎ ((above.grade ≡ below.grade) × (above.object < below.object))

abbrev pub is_above : Row → Row → Bool
is_above row other = nat_lt other.grade row.grade || (row.grade == other.grade && nat_lt row.object other.object)

-- rows by grade falling, then by number rising: with one more in its place; all of them
abbrev pub put_row : Row → List Row → List Row
put_row row [] = row ∷ []
put_row row (other ∷ rows) = if is_above row other then row ∷ other ∷ rows else other ∷ put_row row rows

abbrev pub by_grade : List Row → List Row
by_grade [] = []
by_grade (row ∷ rows) = put_row row (by_grade rows)

-- the rows of objects that have these grades
abbrev pub graded : (ℕ → ℕ) → List ℕ → List Row
graded G objects = map (λ object. record { object = object; grade = G object }) objects

-- the objects of O of which no row is
abbrev pub unread : List Row → List ℕ → List ℕ
unread read O = filter (λ object. not (list_any (λ other. other == object) (objects read))) O

-- the rows that were read, and below them the other objects of O with grades of G, by grade falling, then by number rising
abbrev pub filled : (ℕ → ℕ) → List ℕ → List Row → List Row
filled G O read = read ++ by_grade (graded G (unread read O))

-- the grade of an object in a list: the one that an access gave, and else the chosen one
abbrev pub chosen : (ℕ → ℕ → ℕ) → List Access → ℕ → ℕ → ℕ
chosen choose A list object = unwrap_or (known_grade A object list) (choose list object)

-- the table over O that is completed from a transcript: each list begins with the rows that were read from it
abbrev pub completed : (ℕ → ℕ → ℕ) → List ℕ → ℕ → List Access → List (List Row)
completed choose O m A = map (λ list. filled (chosen choose A list) O (sorted_rows list A)) (list_numbers m)

-- the numbers below n that aren't among the names; n objects, those that are named and the smallest others
abbrev pub unnamed : ℕ → List ℕ → List ℕ
unnamed n names = filter (λ object. not (list_any (λ other. other == object) names)) (range_with_len 0 n)

abbrev pub object_set : ℕ → List ℕ → List ℕ
object_set n names = names ++ take (n - length names) (unnamed n names)

-- O may be the objects of a table that agrees: it is a set of n objects and has the named ones
pub record MayBeObjects (n : ℕ) (A : List Access) (O : List ℕ) : Type 0 where
  pub is_set : IsObjectSet n O
  pub named : All (Contains O) (named_objects A)

-- a completed table can be had: some table agrees, O may be its objects, and no chosen grade is above the bottom of its list
pub record CanComplete (choose : ℕ → ℕ → ℕ) (O : List ℕ) (m n : ℕ) (A : List Access) : Type 0 where
  pub consistent : SomeAgrees m n A
  pub over : MayBeObjects n A O
  pub low : (list object : ℕ) → choose list object ≤ bottom_of list A

-- D is completed from A over O: it agrees with A, its objects are those of O, and each grade is the known or else the chosen one
pub record IsCompletion (choose : ℕ → ℕ → ℕ) (O : List ℕ) (m n : ℕ) (A : List Access) (D : List (List Row)) : Type 0 where
  pub agrees : Agrees m n D A
  pub over : IsOver O D
  pub grades : (list object : ℕ) → list < m → Contains O object → grade_in (list_at D list) object ≡ chosen choose A list object

-- the choice against one object: the least grade for it, and the list's bottom for every other object
abbrev pub against : ℕ → List Access → ℕ → ℕ → ℕ
against inside A list object = if object == inside then 0 else bottom_of list A

-- the table against an object: over the named objects and the smallest others, with that choice
abbrev pub counter_table : ℕ → ℕ → List Access → ℕ → List (List Row)
counter_table m n A inside = completed (against inside A) (object_set n (named_objects A)) m A

-- D agrees with A over O, and one object has its low there while every other has its high
pub record HoldsAgainst (V : List ℕ → ℕ) (m n : ℕ) (A : List Access) (O : List ℕ) (inside : ℕ) (D : List (List Row)) : Type 0 where
  pub agrees : Agrees m n D A
  pub over : IsOver O D
  pub lowest : Contains O inside → aggregate V D inside ≡ low V m A inside
  pub highest : (object : ℕ) → Contains O object → object ≢ inside → aggregate V D object ≡ high V m A object

-- Y is k distinct objects of O, and no object of O outside it has a high above the low of one inside
pub record BoundsPart (V : List ℕ → ℕ) (k m : ℕ) (O : List ℕ) (A : List Access) (Y : List ℕ) : Type 0 where
  pub sized : length Y ≡ k
  pub distinct : AllPairs (λ (y : ℕ) (z : ℕ). y ≢ z) Y
  pub members : All (Contains O) Y
  pub part : (inside outside : ℕ) → Contains Y inside → Contains O outside → ¬ Contains Y outside → high V m A outside ≤ low V m A inside

-- the rows stand in order, and are the given ones
pub record IsByGrade (rows sorted : List Row) : Type 0 where
  pub ordered : AllPairs StandsAbove sorted
  pub size : length sorted ≡ length rows
  pub held : (row : Row) → Contains sorted row → Contains rows row
  pub whole : (row : Row) → Contains rows row → Contains sorted row
