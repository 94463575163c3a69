use Rattle.std.proofs.Common.{not, ap, ◌∙◌, arith}
use Rattle.monotone_fn.specs.Shown.{tree_of}
use Rattle.monotone_fn.proofs.Walks.{Passes-small}
use Rattle.monotone_fn.proofs.expr.fault_of.Goals as goal

pub returns-clause-within : goal.returns-clause-within
returns-clause-within c = λ is. record {
  lists = c.requires;
  few_nodes = omega (arith, c.extent_of-nodes.ensures.nodes);
  shallow = omega (arith, c.extent_of-nodes.ensures.depth);
  small = Passes-small (tree_of c.args.root.now) c.value_at.new.ended c.value_at.result c.value_at.ensures.passes (c.is_none.ensures ∙ ap not c.if-is_none.false);
}

pub returns-then-depth-clause-faults : goal.returns-then-depth-clause-faults
returns-then-depth-clause-faults c =
    (omega (arith, c.extent_of-nodes.ensures.nodes), omega (arith, c.extent_of-nodes.ensures.depth), c.extent_of-nodes.ensures.depth)
