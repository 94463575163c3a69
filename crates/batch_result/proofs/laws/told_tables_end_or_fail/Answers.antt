use Rattle.batch_result.proofs.OutsideLaws.{ends_or_fails_all}
use Rattle.batch_result.proofs.laws.told_tables_end_or_fail.Goals as goal

pub returns : goal.returns
returns c = λ run batch ran lists told tables. ends_or_fails_all run batch ran lists told tables
