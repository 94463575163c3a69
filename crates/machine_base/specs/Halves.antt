-- Ranks by place, parted into the first k of them (`top`) and the others (`rest`).
use Rattle.std.specs.Prelude.{◌≡◌, ◌≢◌, ◌≤◌, ◌<◌, ℕ, Option, Some, None, List, [], ◌∷◌, length, is_some, count_by}
use Rattle.std.specs.declared.cmp.Ordering.TheVariants.{Greater}
use Rattle.std.specs.declared.cmp.Reverse.{Reverse}
use Rattle.containers.specs.Ranks.{rank_at}
use Rattle.machine_base.specs.declared.rank.Rank.{Rank}
use Rattle.machine_base.specs.Rank.{rank_cmp}

-- the rank of a place, which has one among the first or among the others
abbrev pub either : Option Rank → Option (Reverse Rank) → Option Rank
either (Some rank) other = Some rank
either None None = None
either None (Some rank) = Some rank.0

-- the ranks of all places
abbrev pub joined : List (Option Rank) → List (Option (Reverse Rank)) → List (Option Rank)
joined [] rest = []
joined (first ∷ top) [] = first ∷ joined top []
joined (first ∷ top) (other ∷ rest) = either first other ∷ joined top rest

-- the first are k, or all where they are fewer, and no other rank stands before one of them
pub record IsHalved (k : ℕ) (top : List (Option Rank)) (rest : List (Option (Reverse Rank))) : Type 0 where
  pub positive : 1 ≤ k
  pub same_room : length rest ≡ length top
  pub apart : (place : ℕ) (a : Rank) (b : Reverse Rank) → rank_at top place ≡ Some a → rank_at rest place ≡ Some b → ⊥
  pub before : (p q : ℕ) (a : Rank) (b : Reverse Rank) → rank_at top p ≡ Some a → rank_at rest q ≡ Some b → rank_cmp a b.0 ≢ Greater
  pub few : count_by is_some top ≤ k
  pub full : (q : ℕ) (b : Reverse Rank) → rank_at rest q ≡ Some b → count_by is_some top ≡ k

-- the same but for the rank of one place
pub record IsHalvedBut (changed k : ℕ) (top : List (Option Rank)) (rest : List (Option (Reverse Rank))) : Type 0 where
  pub positive : 1 ≤ k
  pub same_room : length rest ≡ length top
  pub apart : (place : ℕ) (a : Rank) (b : Reverse Rank) → rank_at top place ≡ Some a → rank_at rest place ≡ Some b → ⊥
  pub before : (p q : ℕ) (a : Rank) (b : Reverse Rank) → p ≢ changed → q ≢ changed → rank_at top p ≡ Some a → rank_at rest q ≡ Some b → rank_cmp a b.0 ≢ Greater
  pub few : count_by is_some top ≤ k
  pub full : (q : ℕ) (b : Reverse Rank) → q ≢ changed → rank_at rest q ≡ Some b → count_by is_some top ≡ k

-- fewer than k have a rank
abbrev pub HasFewer : ℕ → List (Option Rank) → Type 0
HasFewer k top = count_by is_some top < k

-- the rank is one of them, and none of them stands after it
pub record IsLast (k : ℕ) (top : List (Option Rank)) (last : Rank) : Type 0 where
  pub there : (place : ℕ) × (rank_at top place ≡ Some last)
  pub none_after : (place : ℕ) (rank : Rank) → rank_at top place ≡ Some rank → rank_cmp rank last ≢ Greater
  pub whole : k ≤ count_by is_some top
