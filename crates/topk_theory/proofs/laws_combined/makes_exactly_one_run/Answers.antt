use Rattle.std.proofs.Common.{sym, subst}
use Rattle.topk_theory.specs.Combined.{IsCombinedRun}
use Rattle.topk_theory.proofs.CombinedLaws.{run_is, run_only}
use Rattle.topk_theory.proofs.laws_combined.makes_exactly_one_run.Goals as goal

pub returns : goal.returns
returns c = λ V k phase n D A monotone asked. (run_only V k phase n D A monotone asked, λ e. subst (IsCombinedRun V k phase D) (sym e) (run_is V k phase n D monotone asked))
