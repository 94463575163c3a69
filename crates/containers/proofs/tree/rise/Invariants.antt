use Rattle.containers.specs.Tree.{IsRising, IsMoved}
use Rattle.containers.proofs.Holes.{filled, told}
use Rattle.containers.proofs.tree.rise.Given as goal

-- with the node in the hole, the nodes are a heap but for it, and are where they were moved to
abbrev pub invariant-loop-above : goal.invariant-loop-above
invariant-loop-above g l = record {
  rising : IsRising g.T.Ord.cmp l.hole (filled l.nodes l.hole l.node);
  moved : IsMoved l.fn.nodes (filled l.nodes l.hole l.node) l.fn.places (told l.places l.hole l.node);
}

abbrev pub decreases-loop-above : goal.decreases-loop-above
decreases-loop-above g l = l.hole
