-- What contracts see of a lock, what a pass has of it, and how the calls change that.
use Rattle.std.specs.Prelude.{◌≡◌, ◌<◌, ℕ, ◌+◌, Option, None, Some, List, length}
use Rattle.std.specs.List.{slice_index_or}
use Rattle.atomic_table.specs.Seated.{TableId}
use Rattle.keyed_lock.specs.declared.hold.Hold.{Hold}

-- all parts of a lock
abbrev pub all_parts : ℕ
all_parts = 1099511627776

-- a lock: its table, its key, and how many values it has
pub record Lock (K : Type 0) : Type 0 where
  pub id : TableId
  pub key : K
  pub size : ℕ

module _ {K : Type 0} where
  -- a pass is one of this lock: it has the lock's table and the lock's key
  abbrev pub IsPassOf : Lock K → TableId × Hold K → Type 0
  IsPassOf lock pass = (pass.0 ≡ lock.id) × (pass.1.key ≡ Some lock.key)

  -- the pass that opens a lock has all parts, and no value
  abbrev pub opened : K → Hold K
  opened key = record { key = Some key; parts = all_parts; held = None }

  -- the pass with the value of a place, or without one
  abbrev pub holding : Option ℕ → Hold K → Hold K
  holding held hold = record hold { held = held }

  -- the pass with so many parts
  abbrev pub with_parts : ℕ → Hold K → Hold K
  with_parts parts hold = record hold { parts = parts }

  -- a pass of a lock that has so many parts, and no value
  abbrev pub share_of : Lock K → ℕ → TableId × Hold K
  share_of lock parts = (lock.id, record { key = Some lock.key; parts = parts; held = None })

  -- the first pass with the parts of both
  abbrev pub joined : Hold K → Hold K → Hold K
  joined first second = with_parts (first.parts + second.parts) first

module _ {V K : Type 0} (fact : K → ℕ → V → Type 0) where
  -- the values keep the fact with this key, each at its place
  pub record KeepAll (key : K) (values : List V) : Type 0 where
    pub each : (place : ℕ) (default : V) → place < length values → fact key place (slice_index_or values place default)

  -- a value keeps the fact at a place, with the key that a pass has
  pub record KeepsFact (hold : Hold K) (place : ℕ) (value : V) : Type 0 where
    pub kept : (key : K) → hold.key ≡ Some key → fact key place value
