use Rattle.std.proofs.Common.{◌≡◌, ◌≤◌, map, vec_len, vec_capacity}
use Rattle.monotone_fn.specs.Shown.{tree_of}
use Rattle.made_inputs.specs.MadeQueries.{list_trees}
use Rattle.made_inputs.proofs.expression.list_nodes.Given as goal

abbrev pub invariant-loop-list : goal.invariant-loop-list
invariant-loop-list l = record {
  trees : map tree_of l.nodes.items ≡ list_trees l.list;
  many : vec_len l.nodes ≡ l.list;
  room : l.lists ≤ vec_capacity l.nodes;
}
