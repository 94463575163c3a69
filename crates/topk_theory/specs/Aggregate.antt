-- The aggregate of an object in a table, and its best k. V gives the value of a query's expression at a list of grades.
use Rattle.std.specs.Prelude.{◌≡◌, ◌≢◌, ◌≤◌, ℕ, List, [], ◌∷◌, length, map, All, AllPairs, Contains}
use Rattle.ranked_list.specs.declared.row.Row.{Row}
use Rattle.ranked_list.specs.Table.{objects, grade_in}

-- the objects of a table: those of its first list
abbrev pub objects_of : List (List Row) → List ℕ
objects_of [] = []
objects_of (rows ∷ lists) = objects rows

-- the grades of an object, one from each list
abbrev pub grades_of : List (List Row) → ℕ → List ℕ
grades_of D object = map (λ rows. grade_in rows object) D

-- the aggregate of an object: the value at its grades
abbrev pub aggregate : (List ℕ → ℕ) → List (List Row) → ℕ → ℕ
aggregate V D object = V (grades_of D object)

-- Y is exactly k distinct objects of the table, and no object outside has a greater aggregate than one inside. Ties are free.
pub record IsTop (V : List ℕ → ℕ) (k : ℕ) (D : List (List Row)) (Y : List ℕ) : Type 0 where
  pub sized : length Y ≡ k
  pub distinct : AllPairs (λ (y : ℕ) (z : ℕ). y ≢ z) Y
  pub members : All (Contains (objects_of D)) Y
  pub unbeaten : (inside outside : ℕ) → Contains Y inside → Contains (objects_of D) outside → ¬ Contains Y outside
      → aggregate V D outside ≤ aggregate V D inside
