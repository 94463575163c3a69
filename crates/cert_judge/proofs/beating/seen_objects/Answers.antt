use Rattle.std.proofs.Common.{◌∙◌, ◌∷◌, ◌++◌, [], ap, arith}
use Rattle.std.proofs.lemmas.List.{take_all}
use Rattle.topk_theory.specs.Transcript.{seen_objects}
use Rattle.topk_theory.proofs.AgreementLists.{front_next}
use Rattle.cert_judge.proofs.beating.seen_objects.Goals as goal

pub loop-place-preserved : goal.loop-place-preserved
loop-place-preserved c =
    let S = seen_objects c.args.transcript.now.accesses in
    c.in_ok-push.ensures.items ∙ ap (λ xs. xs ++ c.object_at-object.result ∷ []) c.loop-place.invariant ∙ front_next S c.loop-place.place c.object_at-object.result c.object_at-object.ensures

pub returns : goal.returns
returns c = c.loop-place.invariant ∙ take_all c.loop-place.place (seen_objects c.args.transcript.now.accesses) (omega (arith, c.seen-place-end.ensures))
