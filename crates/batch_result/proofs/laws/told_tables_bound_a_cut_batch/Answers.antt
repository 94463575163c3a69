use Rattle.batch_result.proofs.CutLaws.{cut_account, cut_kept, cut_no_rows}
use Rattle.batch_result.proofs.laws.told_tables_bound_a_cut_batch.Goals as goal

pub returns-clause-within : goal.returns-clause-within
returns-clause-within c = λ run cut lists told tables source l. cut_account run cut lists told tables source l

pub returns-clause-kept : goal.returns-clause-kept
returns-clause-kept c = λ run cut lists told tables source l. cut_kept run cut lists told tables source l

pub returns-clause-alone : goal.returns-clause-alone
returns-clause-alone c = λ run cut source l by_grades. cut_no_rows run cut source l by_grades
