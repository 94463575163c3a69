use Rattle.std.proofs.Common.{◌≡◌, take, filter, not}
use Rattle.topk_theory.specs.Adversary.{chosen, against, graded}
use Rattle.cert_judge.specs.Objects.{has}
use Rattle.cert_judge.proofs.beating.unread_rows.Given as goal

abbrev pub invariant-loop-object : goal.invariant-loop-object
invariant-loop-object l = l.rows.items ≡ graded (chosen (against l.inside l.transcript.accesses) l.transcript.accesses l.list) (filter (λ object. not (has object l.read)) (take l.object-index l.objects))
