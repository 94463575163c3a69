-- The objects that are tied at the caps of lists: for each list those that it has, by their places.
use Rattle.std.specs.Prelude.{◌≡◌, ◌≤◌, ℕ, Option, Some, List, []}
use Rattle.std.specs.List.{slice_index_or}
use Rattle.std.specs.declared.cmp.Reverse.{Reverse}
use Rattle.containers.specs.Ranks.{rank_at}
use Rattle.ca_core.specs.declared.ties.Tied.{Tied}

-- those of a list
abbrev pub ties_of : List (List (Option (Reverse ℕ))) → ℕ → List (Option (Reverse ℕ))
ties_of heaps list = slice_index_or heaps list []

-- the object is tied at this place
abbrev pub HasTied : List (Option (Reverse ℕ)) → ℕ → ℕ → Type 0
HasTied ties place object = rank_at ties place ≡ Some (record { 0 = object })

-- none is tied
abbrev pub HasNone : List (Option (Reverse ℕ)) → Type 0
HasNone ties = (place object : ℕ) → ¬ HasTied ties place object

-- it is tied, and no smaller one is
pub record IsSmallest (ties : List (Option (Reverse ℕ))) (tied : Tied) : Type 0 where
  pub there : HasTied ties tied.place tied.object
  pub least : (place other : ℕ) → HasTied ties place other → tied.object ≤ other
