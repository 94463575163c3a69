-- The lists that can be read in order. Lists count from 0.
use Rattle.std.specs.Prelude.{◌≡◌, ◌<◌, ◌≤◌, ℕ, Bool, true, false, List, length}
use Rattle.std.specs.List.{slice_index_or}

-- whether a list can be read in order, by what is told of each
abbrev pub reads : List Bool → ℕ → Bool
reads sorted list = slice_index_or sorted list false

-- no list from one on and before another can
abbrev pub NoneBetween : List Bool → ℕ → ℕ → Type 0
NoneBetween sorted from to = (list : ℕ) → from ≤ list → list < to → reads sorted list ≡ false

-- the list is the first from one on that can
pub record IsNextList (sorted : List Bool) (from list : ℕ) : Type 0 where
  pub onward : from ≤ list
  pub listed : list < length sorted
  pub readable : reads sorted list ≡ true
  pub passed : NoneBetween sorted from list
