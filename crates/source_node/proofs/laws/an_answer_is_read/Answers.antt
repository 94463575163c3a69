use Rattle.source_node.proofs.ReplyBack.{answer_back}
use Rattle.source_node.proofs.laws.an_answer_is_read.Goals as goal

pub returns : goal.returns
returns c = λ text result few answers. answer_back text result few answers
