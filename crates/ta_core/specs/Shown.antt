-- A reading as the code keeps it.
use Rattle.std.specs.Prelude.{ℕ, List, [], ◌∷◌}
use Rattle.ta_core.specs.declared.progress.Progress.{Progress}
use Rattle.ta_core.specs.Reading.{RowProgress, filled}

-- the reading of a progress
abbrev pub reading_of : Progress → RowProgress
reading_of p =
    record { depth = p.depth; objects = p.objects.items; bottoms = p.bottoms.items; waiting = p.waiting.items; grades = p.grades.items; done = p.done }

-- the grades of the first object that waits, with those that follow in the row
abbrev pub filled_for : List ℕ → List ℕ → List ℕ → List ℕ → List ℕ
filled_for objects bottoms [] grades = grades
filled_for objects bottoms (object ∷ waiting) grades = filled objects bottoms object grades
