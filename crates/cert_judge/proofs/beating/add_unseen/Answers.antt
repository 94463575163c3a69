use Rattle.std.proofs.Common.{◌∙◌, sym, arith}
use Rattle.topk_theory.specs.Transcript.{seen_objects}
use Rattle.cert_judge.proofs.Tame.{untold}
use Rattle.cert_judge.proofs.Completing.{added_unseen}
use Rattle.cert_judge.proofs.beating.add_unseen.Goals as goal

pub returns-in_ok-push : goal.returns-in_ok-push
returns-in_ok-push c =
    c.in_ok-push.ensures.items
    ∙ sym (added_unseen c.args.transcript.now.count c.args.found.now.items (seen_objects c.args.transcript.now.accesses) c.args.object
    (omega (arith, c.len.ensures, c.count.ensures.count)) (untold _ _ c.is_seen.ensures c.if-not-is_seen.true))
