use Rattle.batch_result.proofs.AccountLaws.{out_of_order}
use Rattle.batch_result.proofs.laws.lists_out_of_order_give_no_row.Goals as goal

pub returns : goal.returns
returns c = λ run batch ran source l by_grades. out_of_order run batch ran source l by_grades
