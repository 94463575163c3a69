use Rattle.std.proofs.Common.{[]}
use Rattle.bundle_calls.specs.Reply.{Replies}
use Rattle.topk_c.proofs.Ending.{no_shelf, ends_command}
use Rattle.topk_c.proofs.calls.answer.Goals as goal

pub returns : goal.returns
returns c =
    ends_command Replies c.args.bundle.now c.of-input.result c.one-status.new.input c.bytes.result.now c.make-text.result c.one-status.new.out
    c.one-status.result c.told_status.result c.args.out.now c.tell.new.out c.tell.result c.of-input.ensures c.make-text.ensures c.bytes.ensures
    c.told_status.ensures (c.one-status.ensures.ends [] no_shelf) c.tell.ensures
