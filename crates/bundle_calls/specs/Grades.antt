-- Grades by object.
use Rattle.std.specs.Prelude.{◌≡◌, ℕ, List, Option, Some, None}
use Rattle.containers.specs.Values.{Values, value_of}
use Rattle.ranked_list.specs.declared.row.Row.{Row}
use Rattle.topk_theory.specs.Bounds.{grade_among}

-- the grades of a list by object, if they are there
abbrev pub AreGradesOf : Option (Values ℕ) → List Row → Type 0
AreGradesOf None rows = Unit {0}
AreGradesOf (Some grades) rows = (object : ℕ) → value_of grades object ≡ grade_among rows object
