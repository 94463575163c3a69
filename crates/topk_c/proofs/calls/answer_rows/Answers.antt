use Rattle.topk_c.proofs.Replying.{ends_lists}
use Rattle.topk_c.proofs.calls.answer_rows.Goals as goal

pub returns : goal.returns
returns c =
    ends_lists c.args.lists.now c.args.query.now c.bytes.result.now c.make-text.result c.answer_lists-status.new.out c.answer_lists-status.result
    c.told_status.result c.args.out.now c.tell.new.out c.tell.result c.make-text.ensures c.bytes.ensures c.told_status.ensures c.answer_lists-status.ensures.says
    c.tell.ensures
