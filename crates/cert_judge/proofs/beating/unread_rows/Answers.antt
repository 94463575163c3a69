use Rattle.std.proofs.Common.{◌∙◌, ap, filter, not, arith}
use Rattle.std.proofs.lemmas.List.{take_all}
use Rattle.topk_theory.specs.Adversary.{chosen, against, graded}
use Rattle.cert_judge.specs.Objects.{has}
use Rattle.cert_judge.proofs.Completing.{unread_more}
use Rattle.cert_judge.proofs.beating.unread_rows.Goals as goal

pub loop-object-preserved : goal.loop-object-preserved
loop-object-preserved c =
    let A = c.args.transcript.now.accesses in
    unread_more (chosen (against c.args.inside A) A c.args.list) c.args.objects.now c.args.read.now c.loop-object.object-index c.loop-object.rows.items c.add_unread.new.rows.items
    c.loop-object-test.true c.loop-object.invariant c.in_ok-add_unread.ensures

pub returns : goal.returns
returns c =
    let A = c.args.transcript.now.accesses in
    c.loop-object.invariant
    ∙ ap (λ os. graded (chosen (against c.args.inside A) A c.args.list) (filter (λ object. not (has object c.args.read.now)) os)) (take_all c.loop-object.object-index c.args.objects.now (omega arith))
