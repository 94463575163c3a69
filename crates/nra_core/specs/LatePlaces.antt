-- What is kept of the seen objects by their places, and what it means of the objects.
use Rattle.std.specs.Prelude.{◌≡◌, ◌<◌, ◌≤◌, ◌⊎◌, ◌==◌, ℕ, Bool, false, Option, Some, None, List, [], ◌∷◌, ◌++◌, length, min, is_some, nat_eq, position, slice_get, Contains}
use Rattle.std.specs.List.{list_any}
use Rattle.containers.specs.Ranks.{rank_at}
use Rattle.containers.specs.declared.slots.Entry.{Entry}
use Rattle.containers.specs.Slots.{Slots, IsLeast, AreDistinctKeys}
use Rattle.topk_theory.specs.declared.access.Access.{Access}
use Rattle.topk_theory.specs.Transcript.{object_of, seen_objects}
use Rattle.topk_theory.specs.Bounds.{low, high, threshold}
use Rattle.nra_core.specs.Late.{KeepsCandidates}
use Rattle.monotone_fn.specs.Tree.{Tree}
use Rattle.monotone_fn.specs.Value.{value}
use Rattle.access_log.specs.Log.{Log}
use Rattle.nra_core.specs.declared.late.LateBounds.{LateBounds}

-- whether the object has a place among the seen ones that passes
abbrev pub at_place : (ℕ → Bool) → Option ℕ → Bool
at_place passes None = false
at_place passes (Some place) = passes place

abbrev pub place_seen : List Access → ℕ → Option ℕ
place_seen A object = position (nat_eq object) (seen_objects A)

-- whether the object is among the first by low; whether it is a candidate
abbrev pub is_first : List Access → List Entry → ℕ → Bool
is_first A entries object = at_place (λ place. list_any (λ (entry : Entry). entry.key == place) entries) (place_seen A object)

abbrev pub is_candidate : List Access → List (Option ℕ) → ℕ → Bool
is_candidate A highs object = at_place (λ place. is_some (rank_at highs place)) (place_seen A object)

-- the slots have places of seen objects
abbrev pub AreSeen : List Access → List Entry → Type 0
AreSeen A entries = (slot : ℕ) (entry : Entry) → slice_get entries slot ≡ Some entry → entry.key < length (seen_objects A)

-- the first by low and the candidates are kept after the accesses A: kept lows are the present ones, and kept highs at least the present ones
pub record IsLate (V : List ℕ → ℕ) (k m : ℕ) (A : List Access) (first : Slots) (candidates : List (Option ℕ)) : Type 0 where
  pub asked : 1 ≤ k
  pub most : first.most ≡ k
  pub room : length candidates ≡ first.room
  pub fits : length (seen_objects A) ≤ first.room
  pub full : length first.entries ≡ min k (length (seen_objects A))
  pub keeps : KeepsCandidates k (low V m A) (high V m A) (seen_objects A) (is_first A first.entries) (is_candidate A candidates)
  pub distinct : AreDistinctKeys first.entries
  pub places : AreSeen A first.entries
  pub lows : (slot object : ℕ) (entry : Entry) → slice_get first.entries slot ≡ Some entry → slice_get (seen_objects A) entry.key ≡ Some object
      → entry.rank ≡ low V m A object
  pub waiting : (place kept : ℕ) → rank_at candidates place ≡ Some kept → place < length (seen_objects A)
  pub highs : (place object kept : ℕ) → rank_at candidates place ≡ Some kept → slice_get (seen_objects A) place ≡ Some object → high V m A object ≤ kept

-- for a query's expression e over m lists: what is kept after the accesses A, with the count of the seen objects
pub record IsLateAfter (e : Tree) (m : ℕ) (A : List Access) (late : LateBounds) : Type 0 where
  pub seen : late.seen ≡ length (seen_objects A)
  pub kept : IsLate (value e) late.k m A late.first late.candidates

-- what is kept is up to the transcript
abbrev pub KeepsLate : Tree → Log → LateBounds → Type 0
KeepsLate e log late = IsLateAfter e log.lists log.accesses late

-- it was kept before the last access, which named the object, and what is seen now has room
pub record WasLate (e : Tree) (log : Log) (object : ℕ) (late : LateBounds) : Type 0 where
  pub before : List Access
  pub access : Access
  pub told : log.accesses ≡ before ++ access ∷ []
  pub named : object_of access ≡ object
  pub seen : Contains (seen_objects log.accesses) object
  pub room : length (seen_objects log.accesses) ≤ late.first.room
  pub kept : IsLateAfter e log.lists before late

-- the slot's low is the bound, and its object's high is no greater
pub record IsToLeave (V : List ℕ → ℕ) (m : ℕ) (A : List Access) (bound : ℕ) (entries : List Entry) (slot : ℕ) : Type 0 where
  pub entry : Entry
  pub object : ℕ
  pub there : slice_get entries slot ≡ Some entry
  pub place : slice_get (seen_objects A) entry.key ≡ Some object
  pub tied : entry.rank ≡ bound
  pub within : high V m A object ≤ bound

-- of the slots from one on and before another, none is to leave
abbrev pub AreOpenFrom : (List ℕ → ℕ) → ℕ → List Access → ℕ → List Entry → ℕ → ℕ → Type 0
AreOpenFrom V m A bound entries from to = (slot : ℕ) → from ≤ slot → slot < to → ¬ IsToLeave V m A bound entries slot

-- the slot is the first from one on that is to leave
pub record GivesPlace (V : List ℕ → ℕ) (m : ℕ) (A : List Access) (bound : ℕ) (entries : List Entry) (from slot : ℕ) : Type 0 where
  pub after : from ≤ slot
  pub leaves : IsToLeave V m A bound entries slot
  pub open_before : AreOpenFrom V m A bound entries from slot

-- there are k slots, and of their lows the bound is the least
pub record HasLeast (k : ℕ) (entries : List Entry) (bound : ℕ) : Type 0 where
  pub enough : k ≤ length entries
  pub slot : ℕ
  pub least : IsLeast entries slot
  pub is : least.entry.rank ≡ bound

-- no object that wasn't seen has a high above the bound: all are seen, or the threshold is no greater
abbrev pub UnseenWithin : (List ℕ → ℕ) → Log → ℕ → Type 0
UnseenWithin V log bound = (log.count ≤ length (seen_objects log.accesses)) ⊎ (threshold V log.lists log.accesses ≤ bound)
