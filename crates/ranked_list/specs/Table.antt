-- Ranked lists and tables. Contracts see a list as its rows from the top down, and a table as its lists. Places count from 0.
use Rattle.std.specs.Prelude.{◌≡◌, ◌≢◌, ◌≤◌, ◌==◌, ℕ, suc, List, [], ◌∷◌, length, map, All, AllPairs, Contains, if◌then◌else◌}
use Rattle.ranked_list.specs.declared.row.Row.{Row}
use Rattle.topk_base.specs.declared.TheConstants.{TOP_GRADE}

-- the greatest grade
abbrev pub top_grade : ℕ
top_grade = TOP_GRADE

-- the objects of the rows, from the top down
abbrev pub objects : List Row → List ℕ
objects rows = map (λ row. row.object) rows

-- in a ranked list no object comes twice, and the grades, none above the greatest, never rise from the top down
pub record IsRanked (rows : List Row) : Type 0 where
  pub distinct : AllPairs (λ (above : Row) (below : Row). above.object ≢ below.object) rows
  pub falling : AllPairs (λ (above : Row) (below : Row). below.grade ≤ above.grade) rows
  pub capped : All (λ (row : Row). row.grade ≤ top_grade) rows

-- the lists are ranked, have n rows each, and hold the same objects
pub record IsTable (n : ℕ) (lists : List (List Row)) : Type 0 where
  pub sized : All (λ (rows : List Row). length rows ≡ n) lists
  pub ranked : All IsRanked lists
  pub same : All (λ rows. All (λ others. (object : ℕ) → Contains (objects rows) object → Contains (objects others) object) lists) lists

-- the place of an object in a list; the list's length where it isn't there
abbrev pub place_in : List Row → ℕ → ℕ
place_in [] object = 0
place_in (row ∷ rows) object = if row.object == object then 0 else suc (place_in rows object)

-- the grade of an object in a list; 0 where it isn't there
abbrev pub grade_in : List Row → ℕ → ℕ
grade_in [] object = 0
grade_in (row ∷ rows) object = if row.object == object then row.grade else grade_in rows object
