use Rattle.batch_result.proofs.CutLaws.{cut_account, cut_no_rows}
use Rattle.topk_top.proofs.OpenedRuns.{of_cut}
use Rattle.topk_top.proofs.Given.{rose_by_given}
use Rattle.topk_top.proofs.ReadGiven.{cut_gave_sparingly, cut_lines_have_tables}
use Rattle.topk_top.proofs.ToldLists.{lists_read}
use Rattle.topk_top.proofs.laws_catalog.cut_runs_give_what_is_asked.Goals as goal

pub returns-clause-sources : goal.returns-clause-sources
returns-clause-sources c = λ r cut source within.
    cut_gave_sparingly (λ run cut lists told tables source l. cut_account run cut lists told tables source l)
    (λ run cut source l by_grades. cut_no_rows run cut source l by_grades) r cut source within

pub returns-clause-tables : goal.returns-clause-tables
returns-clause-tables c = λ r cut tells. (lists_read r (of_cut r cut) tells, cut_lines_have_tables r cut tells)

pub returns-clause-places : goal.returns-clause-places
returns-clause-places c = λ r cut place. rose_by_given r (of_cut r cut) place
