-- The board after the rows of a depth: it tells whether the machine halts, and its first k are the answer.
use Rattle.std.proofs.Common.{◌≡◌, ◌≢◌, ℕ, ◌≤◌, true, List, [], map, AllPairs, ap, nat_le}
use Rattle.std.proofs.lemmas.List.Kept.{AllPairs-filter}
use Rattle.ranked_list.specs.declared.row.Row.{Row}
use Rattle.ranked_list.specs.declared.item.Item.{Item}
use Rattle.ranked_list.specs.Table.{IsTable}
use Rattle.topk_theory.specs.Order.{IsFirstK, first_k}
use Rattle.topk_theory.specs.Aggregate.{objects_of}
use Rattle.topk_theory.specs.Threshold.{stands, objects_to, threshold_at, ta_run_to, scored}
use Rattle.topk_theory.proofs.Agreement.{objects_of_distinct}
use Rattle.topk_theory.proofs.ThresholdLists.{contains_filter, contains_from_filter}
use Rattle.topk_theory.proofs.ThresholdRun.{run_sees, seen_stands}
use Rattle.topk_theory.proofs.FirstK.{first_k-is}
use Rattle.topk_theory.proofs.ThresholdTop.{scored_distinct}
use Rattle.machine_base.specs.Board.{OnBoard}
use Rattle.machine_base.proofs.BoardCounts.{IsBoardOf, board_of, board_counts, board_first}
use Rattle.ta_core.specs.Halting.{Halt, halts_at}
use Rattle.ta_core.specs.Reading.{enough}
use Rattle.ta_core.specs.OnTable.{bottoms_at}
use Rattle.ta_core.proofs.Rows.{stands_object}

-- a depth's objects are all on the board
holds : (V : List ℕ → ℕ) (n : ℕ) (D : List (List Row)) (depth : ℕ) (items : List Item) → IsTable n D → depth ≤ n → OnBoard V D (ta_run_to D depth) [] items
    → IsBoardOf V D (objects_to D depth) items
holds V n D depth items t within on =
    board_of V D (ta_run_to D depth) (objects_to D depth) items on
    (λ object h. let kept = contains_from_filter (stands D depth) (objects_of D) object h in run_sees n D depth object t kept.1 kept.0)
    (λ object seen.
    let stood : stands D depth object ≡ true = seen_stands n D depth object t within seen in
    contains_filter (stands D depth) (objects_of D) object (stands_object n D depth object t within stood) stood)

rows_distinct : (n : ℕ) (D : List (List Row)) (depth : ℕ) → IsTable n D → AllPairs (λ (a : ℕ) (b : ℕ). a ≢ b) (objects_to D depth)
rows_distinct n D depth t = AllPairs-filter (λ (a : ℕ) (b : ℕ). a ≢ b) (stands D depth) (objects_of D) (objects_of_distinct n D t)

-- so the board tells where the machine halts
pub board_tells_stop : (V : List ℕ → ℕ) (halt : Halt) (n : ℕ) (D : List (List Row)) (depth : ℕ) (items : List Item) → IsTable n D → depth ≤ n
    → OnBoard V D (ta_run_to D depth) [] items → enough halt depth (V (bottoms_at depth D)) items ≡ halts_at V halt D depth
board_tells_stop V halt n D depth items t within on =
    ap (nat_le halt.k) (board_counts V D (objects_to D depth) (halt.passes depth (threshold_at V D depth)) items (rows_distinct n D depth t) (holds V n D depth items t within on))

-- the first k of the board are the first k of the depth's objects
pub depth_first : (V : List ℕ → ℕ) (k n : ℕ) (D : List (List Row)) (depth : ℕ) (items first : List Item) → IsTable n D → depth ≤ n
    → OnBoard V D (ta_run_to D depth) [] items → IsFirstK k (map (scored V D) (objects_to D depth)) first → IsFirstK k items first
depth_first V k n D depth items first t within on is =
    board_first V k D (objects_to D depth) items first (rows_distinct n D depth t) (holds V n D depth items t within on) is

pub first_of_depth : (V : List ℕ → ℕ) (k n : ℕ) (D : List (List Row)) (depth : ℕ) → IsTable n D
    → IsFirstK k (map (scored V D) (objects_to D depth)) (first_k k (map (scored V D) (objects_to D depth)))
first_of_depth V k n D depth t = first_k-is k (map (scored V D) (objects_to D depth)) (scored_distinct V D (objects_to D depth) (rows_distinct n D depth t))
