use Rattle.batch_result.proofs.AccountLaws.{printed_account}
use Rattle.batch_result.proofs.laws.answers_bound_the_uses.Goals as goal

pub returns : goal.returns
returns c = λ run batch ran source l answered. printed_account run batch ran source l answered
