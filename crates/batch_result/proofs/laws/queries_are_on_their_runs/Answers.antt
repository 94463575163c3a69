use Rattle.batch_result.proofs.TableLaws.{on_their_runs}
use Rattle.batch_result.proofs.laws.queries_are_on_their_runs.Goals as goal

pub returns : goal.returns
returns c = λ run batch ran lists told unmoved tables. on_their_runs run batch ran lists told unmoved tables
