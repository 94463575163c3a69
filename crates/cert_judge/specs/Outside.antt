-- The objects outside an answer, as they are looked for.
use Rattle.std.specs.Prelude.{◌<◌, ℕ, List, length, Contains, Option, Some}
use Rattle.topk_theory.specs.declared.access.Access.{Access}
use Rattle.topk_theory.specs.Transcript.{seen_objects}
use Rattle.topk_theory.specs.Bounds.{high}
use Rattle.cert_judge.specs.Extremes.{greater}
use Rattle.cert_judge.specs.declared.bound.Bound.{Bound}

-- one of the objects that isn't in the answer
pub record IsOneOutside (objects Y : List ℕ) (object : ℕ) : Type 0 where
  pub among : Contains objects object
  pub outside : ¬ Contains Y object

-- each id below n is seen
abbrev pub AreAllSeen : List Access → ℕ → Type 0
AreAllSeen A n = (object : ℕ) → object < n → Contains (seen_objects A) object

-- n objects are seen, or each id below n is
abbrev pub HasNoUnseen : List Access → ℕ → Type 0
HasNoUnseen A n = length (seen_objects A) < n → AreAllSeen A n

-- fewer than n objects are seen, and this is the smallest id below n that isn't
pub record IsLeastUnseen (A : List Access) (n object : ℕ) : Type 0 where
  pub room : length (seen_objects A) < n
  pub below : object < n
  pub unseen : ¬ Contains (seen_objects A) object
  pub others : AreAllSeen A object

-- the greater of a bound and an object's high
abbrev pub with_high : (List ℕ → ℕ) → ℕ → List Access → Option Bound → ℕ → Option Bound
with_high V m A best object = Some (greater best (record { object = object; value = high V m A object }))
