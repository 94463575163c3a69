use Rattle.std.proofs.Common.{◌≡◌, ◌+◌, ◌-◌, ◌^◌, ◌<◌, ◌≤◌, ◌++◌, min, length, sum, map, drop}
use Rattle.monotone_fn.specs.Tree.{trees, terms}
use Rattle.monotone_fn.specs.Shape.{nodes_in, nodes_under, list_count_in, list_count_under}
use Rattle.monotone_fn.specs.Value.{values, products}
use Rattle.monotone_fn.specs.Shown.{tree_of, term_of}
use Rattle.monotone_fn.proofs.Walks.{Walking}
use Rattle.monotone_fn.proofs.Summaries.{SummarizesSoFar}
use Rattle.monotone_fn.proofs.value.+value.Given as goal

abbrev pub invariant-values_at-loop-node : goal.invariant-values_at-loop-node
invariant-values_at-loop-node l =
    let rest = trees (map tree_of (drop l.node-index l.node-items)) in
    let all = trees l.nodes in
    record {
      lists : list_count_in rest ≤ length l.grades;
      walking : Walking l.grades (nodes_in all) (nodes_in rest) l.fn.ended l.ended;
      values : l.values ++ values rest l.grades ≡ values all l.grades;
    }

abbrev pub invariant-summary_at-loop-node : goal.invariant-summary_at-loop-node
invariant-summary_at-loop-node l =
    let rest = trees (map tree_of (drop l.node-index l.node-items)) in
    let all = trees l.nodes in
    record {
      lists : list_count_in rest ≤ length l.grades;
      walking : Walking l.grades (nodes_in all) (nodes_in rest) l.fn.ended l.ended;
      so_far : SummarizesSoFar l.summary (values rest l.grades) (values all l.grades);
    }

abbrev pub invariant-weighted_at-loop-term : goal.invariant-weighted_at-loop-term
invariant-weighted_at-loop-term l =
    let rest = terms (map term_of (drop l.term-index l.term-items)) in
    let all = terms l.weighted in
    record {
      lists : list_count_under rest ≤ length l.grades;
      walking : Walking l.grades (nodes_under all) (nodes_under rest) l.fn.ended l.ended;
      fits : l.total < 2 ^ 64;
      total : min (l.total + sum (products rest l.grades)) (2 ^ 64 - 1) ≡ min (sum (products all l.grades)) (2 ^ 64 - 1);
    }
