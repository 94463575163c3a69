-- Items whose bounds are true of a table: scored ones, and those with the bounds that a transcript gives.
use Rattle.std.proofs.Common.{ℕ, List, [], ◌∷◌, All, length, map, arith}
use Rattle.std.specs.List.{AllByRecursion}
use Rattle.std.proofs.lemmas.List.Elements.{All-from_recursion, All-take}
use Rattle.std.proofs.lemmas.List.Sorted.{All-permutation}
use Rattle.ranked_list.specs.declared.row.Row.{Row}
use Rattle.ranked_list.specs.declared.item.Item.{Item}
use Rattle.monotone_fn.specs.Value.{IsMonotone}
use Rattle.topk_theory.specs.Order.{in_order, first_k}
use Rattle.topk_theory.proofs.InOrder.{in_order-permutes}
use Rattle.topk_theory.specs.declared.access.Access.{Access}
use Rattle.topk_theory.specs.Transcript.{Agrees}
use Rattle.topk_theory.specs.Bounds.{bounded}
use Rattle.topk_theory.specs.Threshold.{scored}
use Rattle.topk_theory.proofs.BoundsLaws.{low_holds, high_holds}
use Rattle.query_core.specs.OneAnswer.{HasTrueBounds}

-- what holds of each item holds of the first k
all_first : (P : Item → Type 0) (k : ℕ) (items : List Item) → AllByRecursion P items → All P (first_k k items)
all_first P k items each = All-take P k (in_order items) (All-permutation P items (in_order items) (in_order-permutes items) (All-from_recursion P items each))

scored_true : (V : List ℕ → ℕ) (D : List (List Row)) (objects : List ℕ) → AllByRecursion (HasTrueBounds V D) (map (scored V D) objects)
scored_true V D [] = tt
scored_true V D (object ∷ objects) = ((omega arith, omega arith), scored_true V D objects)

bounded_true : (V : List ℕ → ℕ) (n : ℕ) (D : List (List Row)) (A : List Access) (objects : List ℕ) → IsMonotone V → Agrees (length D) n D A
    → AllByRecursion (HasTrueBounds V D) (map (bounded V (length D) A) objects)
bounded_true V n D A [] monotone agrees = tt
bounded_true V n D A (object ∷ objects) monotone agrees =
    ((low_holds V (length D) n D A object monotone agrees, high_holds V (length D) n D A object monotone agrees), bounded_true V n D A objects monotone agrees)

-- the first k of scored objects, and of those with the bounds that a transcript gives
pub scored_bounds : (V : List ℕ → ℕ) (k : ℕ) (D : List (List Row)) (objects : List ℕ) → All (HasTrueBounds V D) (first_k k (map (scored V D) objects))
scored_bounds V k D objects = all_first (HasTrueBounds V D) k (map (scored V D) objects) (scored_true V D objects)

pub given_bounds : (V : List ℕ → ℕ) (k n : ℕ) (D : List (List Row)) (A : List Access) (objects : List ℕ) → IsMonotone V → Agrees (length D) n D A
    → All (HasTrueBounds V D) (first_k k (map (bounded V (length D) A) objects))
given_bounds V k n D A objects monotone agrees = all_first (HasTrueBounds V D) k (map (bounded V (length D) A) objects) (bounded_true V n D A objects monotone agrees)
