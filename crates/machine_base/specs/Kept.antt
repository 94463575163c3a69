-- What a board keeps.
use Rattle.std.specs.Prelude.{◌≡◌, ◌<◌, ℕ, true, Option, Some, None, List, [], ◌∷◌, length, is_some, slice_get}
use Rattle.std.specs.declared.cmp.Reverse.{Reverse}
use Rattle.ranked_list.specs.declared.item.Item.{Item}
use Rattle.containers.specs.Ranks.{rank_at}
use Rattle.containers.specs.Keys.{Keys, FitsRoom}
use Rattle.machine_base.specs.declared.rank.Rank.{Rank}
use Rattle.machine_base.specs.Rank.{item_of}
use Rattle.machine_base.specs.Halves.{joined, IsHalved}

-- the items of the places that have a rank
abbrev pub items_in : List (Option Rank) → List Item
items_in [] = []
items_in (None ∷ ranks) = items_in ranks
items_in (Some rank ∷ ranks) = item_of rank ∷ items_in ranks

-- each place that an object has, and no other, has a rank of this object
pub record AreRanksOf (keys : List ℕ) (ranks : List (Option Rank)) : Type 0 where
  pub own : (place : ℕ) (rank : Rank) → rank_at ranks place ≡ Some rank → slice_get keys place ≡ Some rank.object
  pub each : (place : ℕ) → place < length keys → is_some (rank_at ranks place) ≡ true

-- the ranks are those of the objects that have a place, and they are parted
pub record IsBoardKept (places : Keys) (k : ℕ) (top : List (Option Rank)) (rest : List (Option (Reverse Rank))) : Type 0 where
  pub fits : FitsRoom places
  pub size : length top ≡ places.room
  pub halved : IsHalved k top rest
  pub ranks : AreRanksOf places.keys (joined top rest)
