-- Answers within a factor of the best: of one table, and of every table that agrees with a transcript.
use Rattle.std.specs.Prelude.{◌≡◌, ◌≢◌, ◌≤◌, ◌*◌, ℕ, List, length, All, AllPairs, Contains}
use Rattle.ranked_list.specs.declared.row.Row.{Row}
use Rattle.topk_theory.specs.declared.access.Access.{Access}
use Rattle.topk_theory.specs.Aggregate.{objects_of, aggregate}
use Rattle.topk_theory.specs.Transcript.{Agrees, named_objects}
use Rattle.topk_theory.specs.Bounds.{low, high}
use Rattle.topk_theory.specs.Fixes.{IsObjectSet, IsOver}

-- a factor p / q; where q is 0 it says nothing
pub record Factor : Type 0 where
  pub p : ℕ
  pub q : ℕ

-- Y is exactly k distinct objects of the table, and no object outside has an aggregate of more than the factor times one inside
pub record IsWithin (V : List ℕ → ℕ) (k : ℕ) (factor : Factor) (D : List (List Row)) (Y : List ℕ) : Type 0 where
  pub sized : length Y ≡ k
  pub distinct : AllPairs (λ (y : ℕ) (z : ℕ). y ≢ z) Y
  pub members : All (Contains (objects_of D)) Y
  pub near : (inside outside : ℕ) → Contains Y inside → Contains (objects_of D) outside → ¬ Contains Y outside
      → factor.q * aggregate V D outside ≤ factor.p * aggregate V D inside

-- over the objects O the transcript fixes that Y is so near: Y is k distinct objects of O, and within the factor on each table over O that agrees
pub record FixesWithinOver (V : List ℕ → ℕ) (k : ℕ) (factor : Factor) (m n : ℕ) (O : List ℕ) (A : List Access) (Y : List ℕ) : Type 0 where
  pub sized : length Y ≡ k
  pub distinct : AllPairs (λ (y : ℕ) (z : ℕ). y ≢ z) Y
  pub members : All (Contains O) Y
  pub always : (D : List (List Row)) → Agrees m n D A → IsOver O D → IsWithin V k factor D Y

-- the transcript fixes that Y is so near: it does so over every set of n objects that has the objects named in it
abbrev pub FixesWithin : (List ℕ → ℕ) → ℕ → Factor → ℕ → ℕ → List Access → List ℕ → Type 0
FixesWithin V k factor m n A Y = (O : List ℕ) → IsObjectSet n O → All (Contains O) (named_objects A) → FixesWithinOver V k factor m n O A Y

-- Y is k distinct objects of O, and no object of O outside it has a high of more than the factor times the low of one inside
pub record BoundsPartWithin (V : List ℕ → ℕ) (k : ℕ) (factor : Factor) (m : ℕ) (O : List ℕ) (A : List Access) (Y : List ℕ) : Type 0 where
  pub sized : length Y ≡ k
  pub distinct : AllPairs (λ (y : ℕ) (z : ℕ). y ≢ z) Y
  pub members : All (Contains O) Y
  pub part : (inside outside : ℕ) → Contains Y inside → Contains O outside → ¬ Contains Y outside
      → factor.q * high V m A outside ≤ factor.p * low V m A inside
