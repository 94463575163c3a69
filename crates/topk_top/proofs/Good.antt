-- Objects that are as good as is guaranteed.
use Rattle.std.proofs.Common.{◌≡◌, ◌≢◌, ℕ, List, length, All, AllPairs, Contains, Option, None, Some}
use Rattle.ranked_list.specs.declared.row.Row.{Row}
use Rattle.topk_theory.specs.Aggregate.{objects_of}
use Rattle.topk_theory.specs.Asked.{Asked}
use Rattle.algorithm_theory.specs.Within.{Factor}
use Rattle.query_core.specs.Methods.{IsGoodBy}

-- they are as many distinct objects of the table as were asked for
pub record AreObjects (k : ℕ) (D : List (List Row)) (Y : List ℕ) : Type 0 where
  pub sized : length Y ≡ k
  pub distinct : AllPairs (λ (y : ℕ) (z : ℕ). y ≢ z) Y
  pub members : All (Contains (objects_of D)) Y

pub good_objects : (guarantee : Option Factor) (asked : Asked) (D : List (List Row)) (Y : List ℕ) → IsGoodBy guarantee asked D Y → AreObjects asked.k D Y
good_objects None asked D Y good = record { sized = good.sized; distinct = good.distinct; members = good.members }
good_objects (Some factor) asked D Y good = record { sized = good.sized; distinct = good.distinct; members = good.members }
