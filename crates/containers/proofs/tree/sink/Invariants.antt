use Rattle.std.proofs.Common.{◌-◌, length}
use Rattle.containers.specs.Tree.{IsSinking, IsMoved}
use Rattle.containers.proofs.Holes.{filled, told}
use Rattle.containers.proofs.tree.sink.Given as goal

-- with the node in the hole, the nodes are a heap but for it, and are where they were moved to
abbrev pub invariant-loop-under : goal.invariant-loop-under
invariant-loop-under g l = record {
  sinking : IsSinking g.T.Ord.cmp l.hole (filled l.nodes l.hole l.node);
  moved : IsMoved l.fn.nodes (filled l.nodes l.hole l.node) l.fn.places (told l.places l.hole l.node);
}

abbrev pub decreases-loop-under : goal.decreases-loop-under
decreases-loop-under g l = length l.nodes - l.hole
