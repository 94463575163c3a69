-- Keys in slots, each with a rank, of which the least is at hand.
use Rattle.std.specs.Prelude.{◌≡◌, ◌≢◌, ◌<◌, ◌≤◌, ℕ, Option, Some, None, List, length, slice_get, slice_set, slice_index_or}
use Rattle.std.specs.Option.{option_map}
use Rattle.std.specs.declared.cmp.Reverse.{Reverse}
use Rattle.containers.specs.Ranks.{rank_at}
use Rattle.containers.specs.declared.slots.Entry.{Entry}
use Rattle.topk_base.specs.declared.TheConstants.{MAX_OBJECTS}

-- how many slots there are, below what the keys are, and the keys with their ranks, slot by slot
pub record Slots : Type 0 where
  pub most : ℕ
  pub room : ℕ
  pub entries : List Entry

-- no slot has the key
abbrev pub HasNoSlot : List Entry → ℕ → Type 0
HasNoSlot entries key = (slot : ℕ) (entry : Entry) → slice_get entries slot ≡ Some entry → entry.key ≢ key

-- the slot has the key
abbrev pub IsAt : List Entry → ℕ → ℕ → Type 0
IsAt entries key slot = (rank : ℕ) × (slice_get entries slot ≡ Some (record { key = key; rank = rank }))

-- no slot has a lesser rank
pub record IsLeast (entries : List Entry) (slot : ℕ) : Type 0 where
  pub entry : Entry
  pub there : slice_get entries slot ≡ Some entry
  pub least : (other : ℕ) (another : Entry) → slice_get entries other ≡ Some another → entry.rank ≤ another.rank

-- no two slots have one key
abbrev pub AreDistinctKeys : List Entry → Type 0
AreDistinctKeys entries = (one other : ℕ) (a b : Entry) → slice_get entries one ≡ Some a → slice_get entries other ≡ Some b → a.key ≡ b.key → one ≡ other

-- the key of the slot has this rank in place of the one that it had
pub record IsRenewed (slot rank : ℕ) (before after : Slots) : Type 0 where
  pub most : after.most ≡ before.most
  pub room : after.room ≡ before.room
  pub entry : Entry
  pub there : slice_get before.entries slot ≡ Some entry
  pub entries : after.entries ≡ slice_set before.entries slot (record { key = entry.key; rank = rank })

-- the rank of an entry, as the heap keeps it, whose greatest is the least
abbrev pub reversed : Entry → Reverse ℕ
reversed entry = record { 0 = entry.rank }

-- what is kept
pub record KeepsSlots (most capacity : ℕ) (entries : List Entry) (ranks : List (Option (Reverse ℕ))) (slots : List (Option ℕ)) : Type 0 where
  pub few : most ≤ MAX_OBJECTS
  pub small : length slots ≤ MAX_OBJECTS
  pub reserved : most ≤ capacity
  pub within : length entries ≤ most
  pub sized : length ranks ≡ most
  pub ranked : (slot : ℕ) → rank_at ranks slot ≡ option_map reversed (slice_get entries slot)
  pub slot : (slot : ℕ) (entry : Entry) → slice_get entries slot ≡ Some entry → (entry.key < length slots) × (slice_index_or slots entry.key None ≡ Some slot)
  pub key : (key slot : ℕ) → slice_index_or slots key None ≡ Some slot → IsAt entries key slot
