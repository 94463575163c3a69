use Rattle.std.proofs.Common.{◌≡◌, ◌+◌, ◌*◌, ◌++◌, length, take, map, codes}
use Rattle.monotone_fn.specs.Tree.{trees, terms}
use Rattle.monotone_fn.specs.Shape.{depth, depth_in, depth_under}
use Rattle.monotone_fn.specs.Shown.{tree_of}
use Rattle.query_text.specs.Query.{plain_argument, weighted_argument}
use Rattle.query_text.specs.Written.{arguments_from}
use Rattle.query_text.specs.Pieces.{text_of}
use Rattle.query_text.specs.Shape.{argument_pieces}
use Rattle.tk_io.specs.Pieces.{Puts}
use Rattle.query_text.proofs.printing.+put.Given as goal

abbrev pub invariant-put_nodes-loop-place : goal.invariant-put_nodes-loop-place
invariant-put_nodes-loop-place g l = record {
  place : l.place ≡ length l.yielded;
  puts : Puts (g.P.Put.at l.fn.out) (g.P.Put.at l.out)
      (l.opening ++ text_of (argument_pieces (arguments_from (take l.place (map (plain_argument l.names) l.nodes)))));
}

abbrev pub invariant-put_terms-loop-place : goal.invariant-put_terms-loop-place
invariant-put_terms-loop-place g l = record {
  place : l.place ≡ length l.yielded;
  puts : Puts (g.P.Put.at l.fn.out) (g.P.Put.at l.out)
      (codes "wsum(" ++ text_of (argument_pieces (arguments_from (take l.place (map (weighted_argument l.names) l.weighted)))));
}

abbrev pub decreases-put_expr : goal.decreases-put_expr
decreases-put_expr g l = 2 * depth (tree_of l.node.now)

abbrev pub decreases-put_nodes : goal.decreases-put_nodes
decreases-put_nodes g l = 2 * depth_in (trees l.nodes.now) + 1

abbrev pub decreases-put_terms : goal.decreases-put_terms
decreases-put_terms g l = 2 * depth_under (terms l.weighted.now) + 1
