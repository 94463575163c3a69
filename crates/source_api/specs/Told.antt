-- What a source answers whose list is told.
use Rattle.std.specs.Prelude.{◌≡◌, ◌≢◌, ℕ, ◌<◌, ◌==◌, ◌&&◌, Bool, true, false, not, nat_eq, List, [], ◌∷◌, Option, Some, None, length, take, drop, AllPairs, Contains, if◌then◌else◌}
use Rattle.std.specs.Set.{is_member}
use Rattle.ranked_list.specs.declared.row.Row.{Row}
use Rattle.ranked_list.specs.Table.{objects}

-- no object comes twice
abbrev pub HasEachOnce : List Row → Type 0
HasEachOnce rows = AllPairs (λ (above : Row) (below : Row). above.object ≢ below.object) rows

-- the page is the rows that follow the first `from` of the list: some of them, from the first on, and at least one where there is one
pub record IsPage (rows : List Row) (from : ℕ) (page : List Row) : Type 0 where
  pub follows : page ≡ take (length page) (drop from rows)
  pub moves : from < length rows → 0 < length page

-- the grade is the object's in the list, and it is none only where the list hasn't the object
abbrev pub IsGrade : List Row → ℕ → Option ℕ → Type 0
IsGrade rows object (Some grade) = Contains rows (record { object = object; grade = grade })
IsGrade rows object None = ¬ Contains (objects rows) object

-- the grade of the first row with the object, if there is one
abbrev pub first_grade : List Row → ℕ → Option ℕ
first_grade [] object = None
first_grade (row ∷ rows) object = if row.object == object then Some row.grade else first_grade rows object

-- a grade that is kept, or the row's where none is kept and the row is the object's
abbrev pub kept_first : Option ℕ → Row → ℕ → Option ℕ
kept_first None row object = if row.object == object then Some row.grade else None
kept_first (Some grade) row object = Some grade

-- the first of two grades that is there
abbrev pub or_else : Option ℕ → Option ℕ → Option ℕ
or_else None other = other
or_else (Some grade) other = Some grade

-- whether no object comes twice
abbrev pub each_once : List Row → Bool
each_once [] = true
each_once (row ∷ rows) = not (is_member nat_eq (objects rows) row.object) && each_once rows

-- whether there are no rows
abbrev pub is_empty : List Row → Bool
is_empty [] = true
is_empty (row ∷ rows) = false

-- its rows are told where no number is stated, nothing is a lie and no object comes twice
abbrev pub told_of : Option ℕ → List Row → List Row → Option (List Row)
told_of None lies rows = if is_empty lies && each_once rows then Some rows else None
told_of (Some stated) lies rows = None
