use Rattle.nra_core.proofs.Least.{bound_is}
use Rattle.nra_core.proofs.late.LateBounds.bound.Goals as goal

pub returns : goal.returns
returns c = λ e log keeps. bound_is e log c.args.self.now c.least_low.result c.least_low.ensures keeps
