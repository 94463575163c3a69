use Rattle.topk_theory.specs.NoRandom.{nra_depth}
use Rattle.topk_theory.proofs.NoRandomRun.{run_asks}
use Rattle.topk_theory.proofs.laws_no_random.asks_for_no_grade.Goals as goal

pub returns : goal.returns
returns c = λ V k D. run_asks (nra_depth V k D) D
