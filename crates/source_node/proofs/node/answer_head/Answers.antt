use Rattle.std.proofs.Common.{Ok, Err}
use Rattle.source_node.proofs.EndLaws.{answer_sent, refusal_sent}
use Rattle.source_node.proofs.node.answer_head.Goals as goal

pub returns-in-Ok-clause-replied : goal.returns-in-Ok-clause-replied
returns-in-Ok-clause-replied g c =
    (Ok c.in-Ok.body.items, c.in-Ok.ensures.serves, answer_sent _ _ _ _ _ _ _ c.as_slice.ensures.value c.send-end.ensures.sends)

pub returns-in-Err-clause-replied : goal.returns-in-Err-clause-replied
returns-in-Err-clause-replied g c =
    (Err c.in-Err.why, c.in-Err.ensures.serves, refusal_sent _ _ _ _ _ _ _ _ c.is_head.ensures c.refuse.ensures.sends)
