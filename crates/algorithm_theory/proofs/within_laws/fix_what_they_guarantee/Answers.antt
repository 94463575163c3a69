use Rattle.algorithm_theory.proofs.Nearness.{theta_fixes, early_fixes}
use Rattle.algorithm_theory.proofs.within_laws.fix_what_they_guarantee.Goals as goal

pub returns-clause-within : goal.returns-clause-within
returns-clause-within c = theta_fixes

pub returns-clause-early : goal.returns-clause-early
returns-clause-early c = early_fixes
