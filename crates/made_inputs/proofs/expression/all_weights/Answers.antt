use Rattle.std.proofs.Common.{◌+◌, arith}
use Rattle.monotone_fn.specs.Shown.{term_of}
use Rattle.monotone_fn.specs.Tree.{Tree}
use Rattle.made_inputs.proofs.Growing.{grown_length}
use Rattle.made_inputs.proofs.expression.all_weights.Goals as goal

pub from_vec-requires-clause-few : goal.from_vec-requires-clause-few
from_vec-requires-clause-few c =
    let many = grown_length term_of (λ list. (list + 1, Tree.Grade list)) 0 c.args.lists c.in_ok-list_weights.field-0.items c.in_ok-list_weights.ensures in
    omega (arith, many, c.in_ok-list_weights.field-0.ok.0, c.ranges.lists.fits)
