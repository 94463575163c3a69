-- What a transcript tells of an object's aggregate: V gives the value of a query's expression at a list of grades.
use Rattle.std.specs.Prelude.{◌==◌, ℕ, List, [], ◌∷◌, map, Option, Some, None, unwrap_or, if◌then◌else◌}
use Rattle.ranked_list.specs.declared.row.Row.{Row}
use Rattle.ranked_list.specs.declared.item.Item.{Item}
use Rattle.topk_theory.specs.declared.access.Access.{Access}
use Rattle.topk_theory.specs.Transcript.{given_rows, bottom_of, list_numbers}

-- the grade that the rows give an object, if one of them has it
abbrev pub grade_among : List Row → ℕ → Option ℕ
grade_among [] object = None
grade_among (row ∷ rows) object = if row.object == object then Some row.grade else grade_among rows object

-- the grade of an object in a list, where an access gave it
abbrev pub known_grade : List Access → ℕ → ℕ → Option ℕ
known_grade A object list = grade_among (given_rows list A) object

-- the grades of an object with 0 in place of each unknown one; with the bottom of the list in its place
abbrev pub low_grades : ℕ → List Access → ℕ → List ℕ
low_grades m A object = map (λ list. unwrap_or (known_grade A object list) 0) (list_numbers m)

abbrev pub high_grades : ℕ → List Access → ℕ → List ℕ
high_grades m A object = map (λ list. unwrap_or (known_grade A object list) (bottom_of list A)) (list_numbers m)

-- the bounds of an object's aggregate, defined for every object
abbrev pub low : (List ℕ → ℕ) → ℕ → List Access → ℕ → ℕ
low V m A object = V (low_grades m A object)

abbrev pub high : (List ℕ → ℕ) → ℕ → List Access → ℕ → ℕ
high V m A object = V (high_grades m A object)

-- the threshold: the value at the bottoms, which is the high of every object that no access names
abbrev pub threshold : (List ℕ → ℕ) → ℕ → List Access → ℕ
threshold V m A = V (map (λ list. bottom_of list A) (list_numbers m))

-- an object with its bounds
abbrev pub bounded : (List ℕ → ℕ) → ℕ → List Access → ℕ → Item
bounded V m A object = record { object = object; low = low V m A object; high = high V m A object }
