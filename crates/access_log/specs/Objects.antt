-- What is kept of the objects that accesses name, so that no call scans the accesses.
use Rattle.std.specs.Prelude.{◌≡◌, ℕ, ◌<◌, ◌≤◌, Bool, List, [], ◌∷◌, ◌++◌, length, Option, Some, position, nat_eq, slice_get, vec_capacity}
use Rattle.topk_theory.specs.declared.access.Access.{Access}
use Rattle.topk_theory.specs.Transcript.{list_of, object_of, named_objects, seen_objects}
use Rattle.topk_theory.specs.Consistent.{SomeAgrees}
use Rattle.access_log.specs.declared.record.Record.{Record}
use Rattle.access_log.specs.RecordsKept.{AreAhead, HaveRoom, AreRecords, is_read}
use Rattle.access_log.specs.declared.objects.Objects.{Objects}
use Rattle.topk_base.specs.declared.TheConstants.{MAX_LISTS, MAX_OBJECTS}

-- the objects are those that the accesses name, with their records, the seen ones in the order of first sight, and the grades ahead
pub record AreObjects (m : ℕ) (A : List Access) (kept : Objects) : Type 0 where
  pub names : kept.names.keys ≡ named_objects A
  pub records : AreRecords m A kept.names.keys kept.records.items
  pub sights : kept.sights.items ≡ seen_objects A
  pub ahead : AreAhead m A kept.names.keys kept.ahead.heaps.items

-- there is room for as many objects as the objects say
pub record HasRoom (kept : Objects) : Type 0 where
  pub few : kept.room ≤ MAX_OBJECTS
  pub names : kept.room ≤ kept.names.room
  pub records : kept.room ≤ vec_capacity kept.records
  pub sights : kept.room < vec_capacity kept.sights
  pub ahead : HaveRoom kept.room kept.ahead.heaps.items

-- the records and the seen objects after one more access, and whether its list gave its object before
pub record IsNoted (m : ℕ) (A : List Access) (access : Access) (names : List ℕ) (now : List Record) (seen : List ℕ) (was_read : Bool) : Type 0 where
  pub records : AreRecords m (A ++ access ∷ []) names now
  pub sights : seen ≡ seen_objects (A ++ access ∷ [])
  pub read : was_read ≡ is_read A (object_of access) (list_of access)

-- the access goes with those before it, the place is that of its object, and there is room for an object more where it has none
pub record FitsAccess (m n : ℕ) (A : List Access) (kept : Objects) (at : Option ℕ) (access : Access) : Type 0 where
  pub few : m ≤ MAX_LISTS
  pub agrees : SomeAgrees m n (A ++ access ∷ [])
  pub objects : AreObjects m A kept
  pub place : at ≡ position (nat_eq (object_of access)) (named_objects A)
  pub room : length (named_objects (A ++ access ∷ [])) ≤ kept.room

-- the object of the access has this place among the named ones, where all else is as the accesses before it leave it
pub record IsPlaced (m : ℕ) (A : List Access) (access : Access) (kept : Objects) (at : ℕ) : Type 0 where
  pub names : kept.names.keys ≡ named_objects (A ++ access ∷ [])
  pub place : slice_get kept.names.keys at ≡ Some (object_of access)
  pub records : AreRecords m A kept.names.keys kept.records.items
  pub sights : kept.sights.items ≡ seen_objects A
  pub ahead : AreAhead m A kept.names.keys kept.ahead.heaps.items
  pub fits : length kept.names.keys ≤ kept.room
