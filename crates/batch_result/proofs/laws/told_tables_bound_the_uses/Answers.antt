use Rattle.batch_result.proofs.AccountLaws.{told_account, told_kept}
use Rattle.batch_result.proofs.laws.told_tables_bound_the_uses.Goals as goal

pub returns-clause-within : goal.returns-clause-within
returns-clause-within c = λ run batch ran lists told tables source l. told_account run batch ran lists told tables source l

pub returns-clause-kept : goal.returns-clause-kept
returns-clause-kept c = λ run batch ran lists told tables source l. told_kept run batch ran lists told tables source l
