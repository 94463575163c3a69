use Rattle.std.proofs.Common.{arith}
use Rattle.monotone_fn.specs.Shown.{tree_of}
use Rattle.monotone_fn.specs.Tree.{Tree}
use Rattle.made_inputs.proofs.Growing.{grown_length}
use Rattle.made_inputs.proofs.expression.all_lists.Goals as goal

pub from_vec-requires-clause-few : goal.from_vec-requires-clause-few
from_vec-requires-clause-few c =
    let many = grown_length tree_of Tree.Grade 0 c.args.lists c.in_ok-list_nodes.field-0.items c.in_ok-list_nodes.ensures in
    omega (arith, many, c.in_ok-list_nodes.field-0.ok.0, c.ranges.lists.fits)
