-- When a transcript is consistent, and the eight kinds in which one more access may not be.
use Rattle.std.specs.Prelude.{◌≡◌, ◌≢◌, ◌<◌, ◌≤◌, ℕ, List, ◌∷◌, ◌++◌, length, Contains}
use Rattle.ranked_list.specs.declared.row.Row.{Row}
use Rattle.ranked_list.specs.Table.{objects, top_grade}
use Rattle.topk_theory.specs.declared.access.Access.{Access}
use Rattle.topk_theory.specs.declared.access.Access.TheVariants.{Sorted, Random}
use Rattle.topk_theory.specs.Transcript.{Agrees, list_of, object_of, grade_of, sorted_rows, random_rows, given_rows, bottom_of, named_objects}

-- a transcript is consistent where some table of m lists of n rows agrees with it
abbrev pub SomeAgrees : ℕ → ℕ → List Access → Type 0
SomeAgrees m n A = (D : List (List Row)) × Agrees m n D A

-- some row has this object with another grade
abbrev pub HasOther : List Row → ℕ → ℕ → Type 0
HasOther rows object grade = (other : ℕ) × Contains rows (record { object = object; grade = other }) × (other ≢ grade)

-- some row is of another object, one that isn't among the held rows, and has a greater grade
abbrev pub HasAbove : List Row → List Row → ℕ → ℕ → Type 0
HasAbove rows held object grade = (row : Row) × Contains rows row × (row.object ≢ object) × (¬ Contains (objects held) row.object) × (grade < row.grade)

-- the eight kinds of inconsistency, in the order of their numbers
pub data Kind : Type 0 where
  no_such_list above_top too_many_objects rises repeats clashes falls_short above_bottom : Kind

abbrev pub number_of : Kind → ℕ
number_of no_such_list = 1
number_of above_top = 2
number_of too_many_objects = 3
number_of rises = 4
number_of repeats = 5
number_of clashes = 6
number_of falls_short = 7
number_of above_bottom = 8

-- the access doesn't go with those before it, in this way
abbrev pub IsOfKind : ℕ → ℕ → List Access → Access → Kind → Type 0
-- there is no list of this number
IsOfKind m n A access no_such_list = m ≤ list_of access
-- the grade is above the greatest
IsOfKind m n A access above_top = top_grade < grade_of access
-- n objects are named already, and this is another one
IsOfKind m n A access too_many_objects = (n ≤ length (named_objects A)) × (¬ Contains (named_objects A) (object_of access))
-- the grade is above the last one that the list gave
IsOfKind m n A (Sorted list object grade) rises = bottom_of list A < grade
-- the list gave the object before
IsOfKind m n A (Sorted list object grade) repeats = Contains (objects (sorted_rows list A)) object
-- the object is known to have another grade in the list
IsOfKind m n A (Sorted list object grade) clashes = HasOther (random_rows list A) object grade
IsOfKind m n A (Random list object grade) clashes = HasOther (given_rows list A) object grade
-- an object that the list hasn't given yet is known to have a greater grade there
IsOfKind m n A (Sorted list object grade) falls_short = HasAbove (random_rows list A) (sorted_rows list A) object grade
-- the list hasn't given the object, and the grade is above its bottom
IsOfKind m n A (Random list object grade) above_bottom = (¬ Contains (objects (sorted_rows list A)) object) × (bottom_of list A < grade)
-- an access of the other way is none of these
IsOfKind _ _ _ _ _ = ⊥

-- the first kind that holds
pub record IsFirstKind (m n : ℕ) (A : List Access) (access : Access) (kind : Kind) : Type 0 where
  pub holds : IsOfKind m n A access kind
  pub first : (other : Kind) → number_of other < number_of kind → ¬ IsOfKind m n A access other

-- no access of the transcript is of any kind against those before it
abbrev pub HasNoFault : ℕ → ℕ → List Access → Type 0
HasNoFault m n A = (earlier later : List Access) (access : Access) → A ≡ earlier ++ access ∷ later → (kind : Kind) → ¬ IsOfKind m n earlier access kind
