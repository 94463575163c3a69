use Rattle.std.proofs.Common.{take, All, Contains}
use Rattle.topk_theory.specs.Transcript.{seen_objects}
use Rattle.cert_judge.proofs.question.first_unseen.Given as goal

abbrev pub invariant-loop-object : goal.invariant-loop-object
invariant-loop-object l = All (Contains (seen_objects l.transcript.accesses)) (take l.object-index l.answer)
