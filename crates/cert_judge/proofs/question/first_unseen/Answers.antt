use Rattle.std.proofs.Common.{All, Contains, subst, arith}
use Rattle.std.proofs.lemmas.List.{take_all}
use Rattle.topk_theory.specs.Transcript.{seen_objects}
use Rattle.cert_judge.proofs.Tame.{unseen_at, seen_more_of, untold, told}
use Rattle.cert_judge.proofs.question.first_unseen.Goals as goal

pub returns-then-not-is_seen : goal.returns-then-not-is_seen
returns-then-not-is_seen c =
    unseen_at c.args.transcript.now.accesses c.args.answer.now c.loop-object.object-index c.loop-object-test.true c.loop-object.invariant (untold _ _ c.is_seen.ensures c.if-not-is_seen.true)

pub loop-object-preserved : goal.loop-object-preserved
loop-object-preserved c =
    seen_more_of (seen_objects c.args.transcript.now.accesses) c.args.answer.now c.loop-object.object-index c.loop-object-test.true c.loop-object.invariant (told _ _ c.is_seen.ensures c.if-not-is_seen.false)

pub returns : goal.returns
returns c = subst (All (Contains (seen_objects c.args.transcript.now.accesses))) (take_all c.loop-object.object-index c.args.answer.now (omega arith)) c.loop-object.invariant
