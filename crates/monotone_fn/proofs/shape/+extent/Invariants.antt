use Rattle.std.proofs.Common.{◌≡◌, ◌+◌, ◌^◌, ◌<◌, length, max, map, drop}
use Rattle.monotone_fn.specs.Tree.{trees, terms}
use Rattle.monotone_fn.specs.Shape.{nodes_in, nodes_under, depth_in, depth_under, list_count_in, list_count_under}
use Rattle.monotone_fn.specs.Limits.{counted}
use Rattle.monotone_fn.specs.Shown.{tree_of, term_of}
use Rattle.monotone_fn.proofs.shape.+extent.Given as goal

abbrev pub invariant-extent_of_nodes-loop-node : goal.invariant-extent_of_nodes-loop-node
invariant-extent_of_nodes-loop-node l =
    let rest = trees (map tree_of (drop l.node-index l.node-items)) in
    record {
      count_fits : l.extent.nodes < 2 ^ 64;
      count : counted (l.extent.nodes + length (nodes_in rest)) ≡ counted (length (nodes_in (trees l.nodes)));
      depth_fits : l.extent.depth < 2 ^ 64;
      deepest : counted (max l.extent.depth (depth_in rest)) ≡ counted (depth_in (trees l.nodes));
      lists : max l.extent.lists (list_count_in rest) ≡ list_count_in (trees l.nodes);
    }

abbrev pub invariant-extent_of_terms-loop-term : goal.invariant-extent_of_terms-loop-term
invariant-extent_of_terms-loop-term l =
    let rest = terms (map term_of (drop l.term-index l.term-items)) in
    record {
      count_fits : l.extent.nodes < 2 ^ 64;
      count : counted (l.extent.nodes + length (nodes_under rest)) ≡ counted (length (nodes_under (terms l.weighted)));
      depth_fits : l.extent.depth < 2 ^ 64;
      deepest : counted (max l.extent.depth (depth_under rest)) ≡ counted (depth_under (terms l.weighted));
      lists : max l.extent.lists (list_count_under rest) ≡ list_count_under (terms l.weighted);
    }
