use Rattle.std.proofs.Common.{[]}
use Rattle.bundle_calls.specs.Judge.{JudgeReplies}
use Rattle.topk_c.proofs.Ending.{no_shelf, ends_command}
use Rattle.topk_c.proofs.calls.judge_certificate.Goals as goal

pub returns : goal.returns
returns c =
    ends_command JudgeReplies c.args.certificate.now c.of-input.result c.judge-status.new.input c.bytes.result.now c.make-text.result c.judge-status.new.out
    c.judge-status.result c.told_status.result c.args.out.now c.tell.new.out c.tell.result c.of-input.ensures c.make-text.ensures c.bytes.ensures
    c.told_status.ensures (c.judge-status.ensures.ends [] no_shelf) c.tell.ensures
