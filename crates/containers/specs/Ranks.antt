-- A finite map from keys to ranks: a list with a place for each key, and there its rank, or None where it has none.
use Rattle.std.specs.Prelude.{◌≡◌, ◌≢◌, ◌-◌, ◌++◌, ℕ, Bool, Option, Some, None, List, length, replicate, slice_index_or, if◌then◌else◌}
use Rattle.std.specs.declared.cmp.Ordering.{Ordering}
use Rattle.std.specs.declared.cmp.Ordering.TheVariants.{Greater}

-- the rank of a key
abbrev pub rank_at : {T : Type 0} → List (Option T) → ℕ → Option T
rank_at ranks key = slice_index_or ranks key None

-- no key has a rank
abbrev pub HasNone : {T : Type 0} → List (Option T) → Type 0
HasNone ranks = (key : ℕ) → rank_at ranks key ≡ None

-- the key has this rank, and no key has a greater one
pub record IsGreatest {T : Type 0} (cmp : T → T → Ordering) (ranks : List (Option T)) (key : ℕ) (rank : T) : Type 0 where
  pub there : rank_at ranks key ≡ Some rank
  pub none_above : (other : ℕ) (another : T) → rank_at ranks other ≡ Some another → cmp another rank ≢ Greater

-- the ranks of the keys below a room, of which those past the list have none
abbrev pub ranks_within : {T : Type 0} → ℕ → List (Option T) → List (Option T)
ranks_within room ranks = ranks ++ replicate (room - length ranks) None

-- one where the test holds
abbrev pub one_if : Bool → ℕ
one_if test = if test then 1 else 0
