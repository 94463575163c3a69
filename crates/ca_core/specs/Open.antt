-- What is kept of the seen objects that have an unknown grade.
use Rattle.std.specs.Prelude.{◌≡◌, ◌<◌, ◌≤◌, ◌⊎◌, ℕ, Option, Some, None, List, [], ◌∷◌, ◌++◌, length, replicate, slice_get, slice_set, Contains}
use Rattle.std.specs.declared.cmp.Reverse.{Reverse}
use Rattle.containers.specs.Ranks.{rank_at}
use Rattle.ranked_list.specs.Table.{top_grade}
use Rattle.topk_theory.specs.declared.access.Access.{Access}
use Rattle.topk_theory.specs.Transcript.{object_of, seen_objects, bottom_of}
use Rattle.topk_theory.specs.Bounds.{known_grade, high}
use Rattle.topk_theory.specs.Combined.{unknown_lists}
use Rattle.monotone_fn.specs.Tree.{Tree}
use Rattle.monotone_fn.specs.Value.{value}
use Rattle.access_log.specs.Log.{Log}
use Rattle.ca_core.specs.declared.kept_high.KeptHigh.{KeptHigh}
use Rattle.ca_core.specs.declared.open_highs.OpenHighs.{OpenHighs}
use Rattle.ca_core.specs.Ties.{ties_of, HasTied}

-- the kept high of a place is of its object, which has an unknown grade, and is at least the present high
pub record IsOpen (V : List ℕ → ℕ) (m : ℕ) (A : List Access) (place : ℕ) (kept : KeptHigh) : Type 0 where
  pub there : slice_get (seen_objects A) place ≡ Some kept.object
  pub unknown : 0 < length (unknown_lists m A kept.object)
  pub above : high V m A kept.object ≤ kept.high

-- the object at a place has a kept high, or is tied at a list whose grade of it is unknown
abbrev pub IsKept : ℕ → List Access → List (Option KeptHigh) → List (List (Option (Reverse ℕ))) → ℕ → ℕ → Type 0
IsKept m A highs heaps place object =
    ((kept : KeptHigh) × (rank_at highs place ≡ Some kept))
    ⊎ ((list : ℕ) × (list < m) × (known_grade A object list ≡ None) × HasTied (ties_of heaps list) place object)

-- after the accesses A each seen object with an unknown grade is kept
pub record AreOpen (V : List ℕ → ℕ) (m : ℕ) (A : List Access) (highs : List (Option KeptHigh)) (heaps : List (List (Option (Reverse ℕ)))) : Type 0 where
  pub fits : length (seen_objects A) ≤ length highs
  pub lists : length heaps ≡ m
  pub rooms : (list : ℕ) → list < m → length (ties_of heaps list) ≡ length highs
  pub held : (place : ℕ) (kept : KeptHigh) → rank_at highs place ≡ Some kept → IsOpen V m A place kept
  pub tied : (list place object : ℕ) → HasTied (ties_of heaps list) place object → slice_get (seen_objects A) place ≡ Some object
  pub all : (place object : ℕ) → slice_get (seen_objects A) place ≡ Some object → 0 < length (unknown_lists m A object) → IsKept m A highs heaps place object

-- what is kept is up to the transcript
abbrev pub KeepsOpen : Tree → Log → OpenHighs → Type 0
KeepsOpen e log kept = AreOpen (value e) log.lists log.accesses kept.highs kept.ties.heaps.items

-- it was kept before the last access, which named the object, and what is seen now has room
pub record WasOpen (e : Tree) (log : Log) (object : ℕ) (old : OpenHighs) : Type 0 where
  pub before : List Access
  pub access : Access
  pub told : log.accesses ≡ before ++ access ∷ []
  pub named : object_of access ≡ object
  pub seen : Contains (seen_objects log.accesses) object
  pub room : length (seen_objects log.accesses) ≤ length old.highs
  pub kept : AreOpen (value e) log.lists before old.highs old.ties.heaps.items

-- the cap of a list, which no high of an object passes whose grade there is unknown: the value at its bottom and the greatest grades elsewhere
abbrev pub cap : (List ℕ → ℕ) → ℕ → List Access → ℕ → ℕ
cap V m A list = V (slice_set (replicate m top_grade) list (bottom_of list A))

-- an object with this high is tied at the cap of a list
pub record IsCapped (V : List ℕ → ℕ) (m : ℕ) (A : List Access) (rank : KeptHigh) (list : ℕ) : Type 0 where
  pub within : list < m
  pub unknown : known_grade A rank.object list ≡ None
  pub is_cap : rank.high ≡ cap V m A list
