-- When a transcript fixes an answer: on every table that agrees with it.
use Rattle.std.specs.Prelude.{◌≡◌, ◌≢◌, ◌↔◌, ℕ, List, length, All, AllPairs, Contains}
use Rattle.ranked_list.specs.declared.row.Row.{Row}
use Rattle.topk_theory.specs.declared.access.Access.{Access}
use Rattle.topk_theory.specs.Aggregate.{IsTop, objects_of}
use Rattle.topk_theory.specs.Transcript.{Agrees, named_objects}

-- O is a set of n objects
pub record IsObjectSet (n : ℕ) (O : List ℕ) : Type 0 where
  pub sized : length O ≡ n
  pub distinct : AllPairs (λ (o : ℕ) (p : ℕ). o ≢ p) O

-- the table's objects are those of O
abbrev pub IsOver : List ℕ → List (List Row) → Type 0
IsOver O D = (object : ℕ) → Contains (objects_of D) object ↔ Contains O object

-- over the objects O the transcript fixes Y: Y is k distinct objects of O, and it is a top k of each table over O that agrees
pub record FixesOver (V : List ℕ → ℕ) (k m n : ℕ) (O : List ℕ) (A : List Access) (Y : List ℕ) : Type 0 where
  pub sized : length Y ≡ k
  pub distinct : AllPairs (λ (y : ℕ) (z : ℕ). y ≢ z) Y
  pub members : All (Contains O) Y
  pub always : (D : List (List Row)) → Agrees m n D A → IsOver O D → IsTop V k D Y

-- the transcript fixes Y: it does so over every set of n objects that has the objects named in it
abbrev pub Fixes : (List ℕ → ℕ) → ℕ → ℕ → ℕ → List Access → List ℕ → Type 0
Fixes V k m n A Y = (O : List ℕ) → IsObjectSet n O → All (Contains O) (named_objects A) → FixesOver V k m n O A Y
