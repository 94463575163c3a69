use Rattle.nra_core.proofs.Beginning.{late_at_first}
use Rattle.nra_core.proofs.late.LateBounds.make.Goals as goal

pub returns-clause-kept : goal.returns-clause-kept
returns-clause-kept c = λ e m. late_at_first e c.args.k m c.args.room c.in-Ok.first c.in-Ok-make.candidates c.requires.asked c.in-Ok.ensures c.in-Ok-make.ensures
