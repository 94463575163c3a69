-- What contracts see of an object map.
use Rattle.std.specs.Prelude.{◌≡◌, ◌==◌, ℕ, List, Option, Some, None, nat_eq, slice_index_or, if◌then◌else◌}
use Rattle.std.specs.Map.{lookup}

-- the values in the table, by the objects' numbers; the other objects with their values; and for how many objects more memory is held
pub record Values (V : Type 0) : Type 0 where
  pub near : List (Option V)
  pub far : List (ℕ × V)
  pub spare : ℕ

-- the first value, or the other one where there is none
abbrev pub or_other : {V : Type 0} → Option V → Option V → Option V
or_other (Some value) other = Some value
or_other None other = other

-- the value of an object, or None where it has none
abbrev pub value_of : {V : Type 0} → Values V → ℕ → Option V
value_of map object = or_other (slice_index_or map.near object None) (lookup (nat_eq object) map.far)

-- each object has the value that it had
abbrev pub IsSame : {V : Type 0} → Values V → Values V → Type 0
IsSame before after = (object : ℕ) → value_of after object ≡ value_of before object

-- the object has this value, and each other one the value that it had
abbrev pub IsSet : {V : Type 0} → Values V → Values V → ℕ → V → Type 0
IsSet before after object value = (other : ℕ) → value_of after other ≡ (if object == other then Some value else value_of before other)
