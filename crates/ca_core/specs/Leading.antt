-- Which of the seen objects that have an unknown grade stands first: by high falling, then by number rising.
use Rattle.std.specs.Prelude.{◌≡◌, ◌<◌, ◌≤◌, ◌⊎◌, ℕ, Option, Some, None, List, length, slice_set, Contains}
use Rattle.std.specs.declared.cmp.Reverse.{Reverse}
use Rattle.containers.specs.Ranks.{rank_at}
use Rattle.topk_theory.specs.declared.access.Access.{Access}
use Rattle.topk_theory.specs.Transcript.{seen_objects}
use Rattle.topk_theory.specs.Bounds.{known_grade, high}
use Rattle.topk_theory.specs.Combined.{unknown_lists}
use Rattle.ca_core.specs.declared.kept_high.KeptHigh.{KeptHigh}
use Rattle.ca_core.specs.Ties.{ties_of, HasTied}

-- nothing with this high and number stands before the first
abbrev pub LeadsOver : Option KeptHigh → ℕ → ℕ → Type 0
LeadsOver None high object = ⊥
LeadsOver (Some first) high object = (high < first.high) ⊎ ((high ≡ first.high) × (first.object ≤ object))

-- no kept high stands before the first
abbrev pub LeadsHighs : Option KeptHigh → List (Option KeptHigh) → Type 0
LeadsHighs first highs = (place : ℕ) (kept : KeptHigh) → rank_at highs place ≡ Some kept → LeadsOver first kept.high kept.object

-- the high is that of a seen object with an unknown grade
pub record IsPresent (V : List ℕ → ℕ) (m : ℕ) (A : List Access) (rank : KeptHigh) : Type 0 where
  pub seen : Contains (seen_objects A) rank.object
  pub unknown : 0 < length (unknown_lists m A rank.object)
  pub present : high V m A rank.object ≡ rank.high

-- the first of the objects that are tied at a list
abbrev pub LeadsTies : (List ℕ → ℕ) → ℕ → List Access → Option KeptHigh → List (List (Option (Reverse ℕ))) → ℕ → Type 0
LeadsTies V m A first heaps list =
    (place object : ℕ) → HasTied (ties_of heaps list) place object → known_grade A object list ≡ None → LeadsOver first (high V m A object) object

-- the first of those that are tied at the lists below a number
pub record IsFirstTied (V : List ℕ → ℕ) (m : ℕ) (A : List Access) (below : ℕ) (heaps : List (List (Option (Reverse ℕ)))) (first : Option KeptHigh) : Type 0 where
  pub present : (rank : KeptHigh) → first ≡ Some rank → IsPresent V m A rank
  pub leads : (list : ℕ) → list < below → LeadsTies V m A first heaps list

-- a kept high leads all others, and what the first leads
pub record IsAhead (first : Option KeptHigh) (highs : List (Option KeptHigh)) (place : ℕ) (rank : KeptHigh) : Type 0 where
  pub there : rank_at highs place ≡ Some rank
  pub leads : LeadsHighs (Some rank) highs
  pub passes : (high object : ℕ) → LeadsOver first high object → LeadsOver (Some rank) high object

-- the object of a kept high that is above its present one, and the present one
pub record IsFallen (V : List ℕ → ℕ) (m : ℕ) (A : List Access) (highs : List (Option KeptHigh)) (place : ℕ) (rank : KeptHigh) : Type 0 where
  pub kept : KeptHigh
  pub there : rank_at highs place ≡ Some kept
  pub object : rank.object ≡ kept.object
  pub present : rank.high ≡ high V m A kept.object

-- the kept high of a place is this one, or there is none any more
abbrev pub IsLowered : List (Option KeptHigh) → ℕ → KeptHigh → List (Option KeptHigh) → Type 0
IsLowered before place rank after = (after ≡ slice_set before place (Some rank)) ⊎ (after ≡ slice_set before place None)
