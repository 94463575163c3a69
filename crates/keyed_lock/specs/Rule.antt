-- What holds between any two steps on a lock: of its words, of the slots, and of all passes.
-- The word of a place is 1 where a pass has its value, else 0. One more word stands behind those of the places.
use Rattle.std.specs.Prelude.{◌≡◌, ℕ, zero, suc, ◌<◌, ◌≤◌, ◌==◌, List, Option, Some, None, map, length, slice_index, if◌then◌else◌}
use mathlib.Core.Option as slot
use lib.ListN.{get_elem?}
use Rattle.std.specs.Mem.Slots.{slots_items, IsFull}
use Rattle.atomic_table.specs.Table.{State, Me}
use Rattle.atomic_table.specs.declared.owned.Closed.{Closed}
use Rattle.std.specs.declared.alloc.Global.{Global}
use Rattle.turn_lock.specs.Rule.{total}
use Rattle.keyed_lock.specs.declared.view.View.{View}
use Rattle.keyed_lock.specs.Hold.{all_parts, opened}

-- the words, the slots and the views of a lock's table
abbrev pub LockState : Type 0 → Type 0 → Type 0
LockState V K = State (Option V) (View K)

-- the view of one pass, and the slots with what it has in them
abbrev pub PassState : Type 0 → Type 0 → Type 0
PassState V K = Me (Option V) (View K)

-- 1 where it is this place
abbrev pub count_held : ℕ → Option ℕ → ℕ
count_held place None = 0
count_held place (Some other) = if other == place then 1 else 0

module _ {K : Type 0} where
  -- how many parts a pass has
  abbrev pub parts_of : View K → ℕ
  parts_of v = v.hold.parts

  -- 1 where it has the value of this place
  abbrev pub has_value : ℕ → View K → ℕ
  has_value place v = count_held place v.hold.held

  -- the pass that opens a lock
  abbrev pub first_view : K → View K
  first_view key = record { hold = opened key; offer = 0 }

  -- a pass that was joined to another
  abbrev pub spent_view : View K
  spent_view = record { hold = record { key = None; parts = 0; held = None }; offer = 0 }

  -- a live pass has the lock's key, and a spent one has no value
  pub record Fits (own : K) (v : View K) : Type 0 where
    pub live : 0 < v.hold.parts → v.hold.key ≡ Some own
    pub spent : v.hold.parts ≡ 0 → v.hold.held ≡ None

module _ {V K : Type 0} (fact : K → ℕ → V → Type 0) where
  -- the value of a place is home, and keeps the fact, where no pass has it; else its slot is out
  abbrev pub Home : K → ℕ → ℕ → slot.Option (slot.Option (Option V)) → Type 0
  Home key place zero home = (y : V) × (home ≡ slot.some (slot.some (Some y))) × fact key place y
  Home key place (suc _) home = home ≡ slot.some slot.none

  -- what holds of a place: one pass at most has its value, and the word says whether one has it
  pub record IsKept (key : K) (place : ℕ) (s : LockState V K) : Type 0 where
    pub word : slice_index s.words place ≡ total (has_value place) s.views
    pub alone : total (has_value place) s.views ≤ 1
    pub home : Home key place (total (has_value place) s.views) (get_elem? s.homes place)

  -- the rule of the lock: of each place, of each pass, and that the parts add up to all
  pub record Ruled (key : K) (s : LockState V K) : Type 0 where
    pub long : length s.homes < length s.words
    pub places : (place : ℕ) → place < length s.homes → IsKept key place s
    pub each : (seat : ℕ) (v : View K) → get_elem? s.views seat ≡ slot.some v → Fits key v
    pub whole : total parts_of s.views ≡ all_parts

-- all slots of a closed table are there, each with a value
pub record HoldsAll {V : Type 0} (closed : Closed (Option V) Global) : Type 0 where
  pub full : IsFull closed.slots
  pub values : List V
  pub are : slots_items closed.slots ≡ map Some values
