use Rattle.algorithm_theory.proofs.FaginSame.{fa_fixes}
use Rattle.algorithm_theory.proofs.fa_laws.fixes_its_answer.Goals as goal

pub returns : goal.returns
returns c = fa_fixes
