-- What contracts see of a transcript, and what becomes of one more access.
use Rattle.std.specs.Prelude.{◌≡◌, ◌==◌, ◌-◌, ℕ, ◌<◌, ◌≤◌, ◌⊎◌, List, [], ◌∷◌, ◌++◌, Bool, Contains, if◌then◌else◌}
use Rattle.std.specs.List.{list_any}
use Rattle.ranked_list.specs.declared.row.Row.{Row}
use Rattle.topk_theory.specs.declared.access.Access.{Access}
use Rattle.topk_theory.specs.Transcript.{Agrees, object_of, named_objects}
use Rattle.topk_theory.specs.Consistent.{Kind, number_of, IsFirstKind}
use Rattle.topk_base.specs.declared.TheConstants.{MAX_LISTS, MAX_OBJECTS}

-- how many lists, how many objects, the accesses in their order, and for how many more objects and accesses room is reserved
pub record Log : Type 0 where
  pub lists : ℕ
  pub count : ℕ
  pub accesses : List Access
  pub spare_objects : ℕ
  pub spare_accesses : ℕ

-- whether an access of the log names the object
abbrev pub is_named : Log → ℕ → Bool
is_named log object = list_any (λ other. other == object) (named_objects log.accesses)

-- the log with one more access, which takes a spare access, and a spare object where none before names its object
abbrev pub with_access : Log → Access → Log
with_access log access = record log {
  accesses = log.accesses ++ access ∷ [];
  spare_objects = if is_named log (object_of access) then log.spare_objects else log.spare_objects - 1;
  spare_accesses = log.spare_accesses - 1;
}

-- no room is reserved for the access: for no access at all, or for no object, and none before names this one
abbrev pub HasNoRoom : Log → Access → Type 0
HasNoRoom log access = (log.spare_accesses ≡ 0) ⊎ ((log.spare_objects ≡ 0) × (¬ Contains (named_objects log.accesses) (object_of access)))

-- a table agrees with the log
abbrev pub AgreesWith : List (List Row) → Log → Type 0
AgreesWith D log = Agrees log.lists log.count D log.accesses

-- some table agrees with the log
abbrev pub IsConsistent : Log → Type 0
IsConsistent log = (D : List (List Row)) × AgreesWith D log

-- this is the number of the first kind of which the access is after the log
abbrev pub IsFirstNumber : Log → Access → ℕ → Type 0
IsFirstNumber log access number = (kind : Kind) × (number_of kind ≡ number) × IsFirstKind log.lists log.count log.accesses access kind

-- how many lists and objects a log may have
pub record IsWithinLimits (lists count : ℕ) : Type 0 where
  pub some_lists : 0 < lists
  pub few_lists : lists ≤ MAX_LISTS
  pub some_objects : 0 < count
  pub few_objects : count ≤ MAX_OBJECTS
