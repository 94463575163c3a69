use Rattle.batch_result.proofs.EndingLaws.{ends_over_all}
use Rattle.batch_result.proofs.laws.told_tables_give_the_one_ending.Goals as goal

pub returns : goal.returns
returns c = λ run batch lists ran tells. ends_over_all run batch lists ran tells
