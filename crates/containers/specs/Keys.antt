-- What contracts see of a room map.
use Rattle.std.specs.Prelude.{◌≡◌, ◌≢◌, ◌≤◌, ◌+◌, ℕ, List, length, nat_eq, position, AllPairs}
use Rattle.containers.specs.Values.{Values, value_of}
use Rattle.topk_base.specs.declared.TheConstants.{MAX_OBJECTS}

-- how many keys there is room for, and the keys in the order in which they were added
pub record Keys : Type 0 where
  pub room : ℕ
  pub keys : List ℕ

-- the keys are distinct and no more than the room, which is within its limit
pub record FitsRoom (map : Keys) : Type 0 where
  pub few : map.room ≤ MAX_OBJECTS
  pub within : length map.keys ≤ map.room
  pub distinct : AllPairs (λ (a : ℕ) (b : ℕ). a ≢ b) map.keys

-- what a map keeps: distinct keys within the room, each with its place, and memory for as many as there is room for
pub record AreKeysKept (room : ℕ) (keys : List ℕ) (capacity : ℕ) (places : Values ℕ) : Type 0 where
  pub few : room ≤ MAX_OBJECTS
  pub within : length keys ≤ room
  pub held : room ≤ capacity
  pub spare : room ≤ length keys + places.spare
  pub distinct : AllPairs (λ (a : ℕ) (b : ℕ). a ≢ b) keys
  pub placed : (key : ℕ) → value_of places key ≡ position (nat_eq key) keys
