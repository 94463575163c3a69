use Rattle.source_pool.proofs.SaidMeans.{said_row, said_known, unsaid_row, unsaid_grade}
use Rattle.source_pool.proofs.laws.a_log_says_what_it_has.Goals as goal

pub returns-clause-row : goal.returns-clause-row
returns-clause-row c = λ log list depth row e. said_row log list depth row e

pub returns-clause-known : goal.returns-clause-known
returns-clause-known c = λ log list object grade e. said_known log list object grade e

pub returns-clause-no_row : goal.returns-clause-no_row
returns-clause-no_row c = λ log list depth e. unsaid_row log list depth e

pub returns-clause-no_grade : goal.returns-clause-no_grade
returns-clause-no_grade c = λ log list object e. unsaid_grade log list object e
