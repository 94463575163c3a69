use Rattle.std.proofs.Common.{◌≡◌, ◌∙◌, ap, arith}
use Rattle.topk_theory.specs.Transcript.{seen_objects}
use Rattle.cert_judge.proofs.Completing.{set_so_far, set_begins, set_more}
use Rattle.cert_judge.proofs.beating.objects_of.Goals as goal

pub loop-object-init : goal.loop-object-init
loop-object-init c = c.in_ok-found.ensures ∙ set_begins c.args.transcript.now.count (seen_objects c.args.transcript.now.accesses)

pub loop-object-preserved : goal.loop-object-preserved
loop-object-preserved c =
    set_more c.args.transcript.now.count c.loop-object.object (seen_objects c.args.transcript.now.accesses) c.loop-object.found.items c.add_unseen.new.found.items
    c.loop-object.invariant c.in_ok-add_unseen.ensures

pub returns : goal.returns
returns c =
    let end : c.loop-object.object ≡ c.args.transcript.now.count = omega (arith, c.count-object-end.ensures.count, c.loop-object.auto.object-end, c.loop-object-test.false) in
    c.loop-object.invariant ∙ ap (λ i. set_so_far c.args.transcript.now.count i (seen_objects c.args.transcript.now.accesses)) end
