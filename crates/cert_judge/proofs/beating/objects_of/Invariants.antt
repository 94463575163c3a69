use Rattle.std.proofs.Common.{◌≡◌}
use Rattle.topk_theory.specs.Transcript.{seen_objects}
use Rattle.cert_judge.proofs.Completing.{set_so_far}
use Rattle.cert_judge.proofs.beating.objects_of.Given as goal

abbrev pub invariant-loop-object : goal.invariant-loop-object
invariant-loop-object l = l.found.items ≡ set_so_far l.transcript.count l.object (seen_objects l.transcript.accesses)
