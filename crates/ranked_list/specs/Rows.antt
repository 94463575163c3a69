-- What is kept of the rows that one has gone over.
use Rattle.std.specs.Prelude.{◌≡◌, ◌&&◌, ℕ, Bool, true, List, [], ◌∷◌, length, nat_eq, nat_le}
use Rattle.std.specs.Set.{is_member}
use Rattle.std.specs.declared.option.Option.{Option}
use Rattle.std.specs.declared.option.Option.TheVariants.{None, Some}
use Rattle.ranked_list.specs.declared.row.Row.{Row}
use Rattle.ranked_list.specs.Table.{IsRanked, objects, top_grade}

-- the last row, if there is one
abbrev pub last_row : List Row → Option Row
last_row [] = None
last_row (row ∷ []) = Some row
last_row (row ∷ next ∷ rows) = last_row (next ∷ rows)

-- whether the grade of a row is in order under the last one
abbrev pub in_order : Option Row → Row → Bool
in_order None row = nat_le row.grade top_grade
in_order (Some above) row = nat_le row.grade top_grade && nat_le row.grade above.grade

-- the test is passed by the objects of the rows
abbrev pub TellsObjects : (ℕ → Bool) → List Row → Type 0
TellsObjects test rows = (object : ℕ) → test object ≡ is_member nat_eq (objects rows) object

-- a list is ranked and has so many rows, all of objects that pass the test
pub record IsAlike (count : ℕ) (test : ℕ → Bool) (rows : List Row) : Type 0 where
  pub sized : length rows ≡ count
  pub ranked : IsRanked rows
  pub within : (object : ℕ) → is_member nat_eq (objects rows) object ≡ true → test object ≡ true
