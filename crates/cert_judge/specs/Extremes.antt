-- The objects with the least and the greatest of a number, and what is found of them so far.
use Rattle.std.specs.Prelude.{◌≡◌, ◌≤◌, ◌==◌, ◌&&◌, ◌||◌, ℕ, nat_lt, Option, Some, None, if◌then◌else◌}
use Rattle.cert_judge.specs.declared.bound.Bound.{Bound}

-- of the objects with P this one has the least of the numbers f, and the smallest id of those with that number
pub record IsLeast (f : ℕ → ℕ) (P : ℕ → Type 0) (object : ℕ) : Type 0 where
  pub is_one : P object
  pub least : (other : ℕ) → P other → f object ≤ f other
  pub first : (other : ℕ) → P other → f other ≡ f object → object ≤ other

-- of the objects with P this one has the greatest of the numbers f, and the smallest id of those with that number
pub record IsGreatest (f : ℕ → ℕ) (P : ℕ → Type 0) (object : ℕ) : Type 0 where
  pub is_one : P object
  pub greatest : (other : ℕ) → P other → f other ≤ f object
  pub first : (other : ℕ) → P other → f other ≡ f object → object ≤ other

-- the bound is that of the object with the least number, or there is no object
abbrev pub FindsLeast : (ℕ → ℕ) → (ℕ → Type 0) → Option Bound → Type 0
FindsLeast f P None = (object : ℕ) → ¬ P object
FindsLeast f P (Some bound) = IsLeast f P bound.object × (bound.value ≡ f bound.object)

-- the bound is that of the object with the greatest number, or there is no object
abbrev pub FindsGreatest : (ℕ → ℕ) → (ℕ → Type 0) → Option Bound → Type 0
FindsGreatest f P None = (object : ℕ) → ¬ P object
FindsGreatest f P (Some bound) = IsGreatest f P bound.object × (bound.value ≡ f bound.object)

-- the lesser of two bounds, and the greater; of equal ones that of the smaller id
abbrev pub lesser : Option Bound → Bound → Bound
lesser None next = next
lesser (Some best) next = if nat_lt next.value best.value || (next.value == best.value && nat_lt next.object best.object) then next else best

abbrev pub greater : Option Bound → Bound → Bound
greater None next = next
greater (Some best) next = if nat_lt best.value next.value || (next.value == best.value && nat_lt next.object best.object) then next else best
