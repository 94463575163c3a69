use Rattle.batch_result.proofs.AccountLaws.{out_of_order, printed_account, told_account}
use Rattle.topk_top.proofs.OpenedRuns.{of_run}
use Rattle.topk_top.proofs.Given.{rose_by_given}
use Rattle.topk_top.proofs.ReadGiven.{gave_sparingly, lines_have_tables}
use Rattle.topk_top.proofs.ToldLists.{lists_told}
use Rattle.topk_top.proofs.laws_catalog.sources_give_what_is_asked.Goals as goal

pub returns-clause-sources : goal.returns-clause-sources
returns-clause-sources c = λ r outcomes run source within.
    gave_sparingly (λ run batch ran lists told tables source l. told_account run batch ran lists told tables source l)
    (λ run batch ran source l answered. printed_account run batch ran source l answered)
    (λ run batch ran source l by_grades. out_of_order run batch ran source l by_grades) r outcomes run source within

pub returns-clause-tables : goal.returns-clause-tables
returns-clause-tables c = λ r outcomes run tells. (lists_told r outcomes run tells, lines_have_tables r outcomes run tells)

pub returns-clause-places : goal.returns-clause-places
returns-clause-places c = λ r outcomes run place. rose_by_given r (of_run r outcomes run) place
