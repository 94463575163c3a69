use Rattle.topk_theory.proofs.NoRandomLaws.{run_agrees, nra_depth_is_least}
use Rattle.topk_theory.specs.NoRandom.{nra_depth}
use Rattle.topk_theory.proofs.laws_no_random.reads_the_table_in_order.Goals as goal

pub returns : goal.returns
returns c = λ V k n D monotone asked. run_agrees n (nra_depth V k D) D asked.table (nra_depth_is_least V k n D monotone asked).within
