use Rattle.std.proofs.Common.{refl}
use Rattle.monotone_fn.proofs.expr.Expr.make.Goals as goal

pub invariant_of-result : goal.invariant_of-result
invariant_of-result c = (c.fault_of.ensures.within c.in-None.is, c.extent_of-lists.ensures.lists)

pub returns-in-None : goal.returns-in-None
returns-in-None c = (refl, c.fault_of.ensures.within c.in-None.is)
