use Rattle.std.proofs.Common.{Some, arith}
use Rattle.containers.specs.Tree.{node_at}
use Rattle.containers.proofs.HeapLaws.{less_upto, not_less, covers_less}
use Rattle.containers.proofs.Holes.{filled, other_upto, upto_other, greatest_filled}
use Rattle.containers.proofs.tree.greater_under.Goals as goal

pub is_below-requires : goal.is_below-requires
is_below-requires g c = c.in_ok-under.ensures.within

pub returns-then-is_below : goal.returns-then-is_below
returns-then-is_below g c =
    let under = c.in_ok-under.under in
    let positive = c.in_ok-under.ensures.positive in
    let is = c.in_ok-under.ensures.is in
    record {
      greatest = greatest_filled g.T.Ord.cmp c.args.nodes.now c.args.hole c.args.node under c.in_ok-under.ensures;
      order =
          upto_other g.T.Ord.cmp c.args.nodes.now c.args.hole c.args.node under c.requires.within (omega arith)
          (less_upto g.T.Ord.cmp g.met.T.Ord.total (Some c.args.node) (node_at c.args.nodes.now under) c.is_below.result c.is_below.ensures c.if-is_below.true);
    }

pub returns-else-is_below : goal.returns-else-is_below
returns-else-is_below g c =
    let under = c.in_ok-under.under in
    let positive = c.in_ok-under.ensures.positive in
    let is = c.in_ok-under.ensures.is in
    covers_less g.T.Ord.cmp g.met.T.Ord.total c.args.hole under (filled c.args.nodes.now c.args.hole c.args.node)
    (greatest_filled g.T.Ord.cmp c.args.nodes.now c.args.hole c.args.node under c.in_ok-under.ensures)
    (other_upto g.T.Ord.cmp c.args.nodes.now c.args.hole c.args.node under c.requires.within (omega arith)
    (not_less g.T.Ord.cmp g.met.T.Ord.total (Some c.args.node) (node_at c.args.nodes.now under) c.is_below.result c.is_below.ensures c.if-is_below.false))
