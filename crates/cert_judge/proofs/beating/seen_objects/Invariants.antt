use Rattle.std.proofs.Common.{◌≡◌, take}
use Rattle.topk_theory.specs.Transcript.{seen_objects}
use Rattle.cert_judge.proofs.beating.seen_objects.Given as goal

abbrev pub invariant-loop-place : goal.invariant-loop-place
invariant-loop-place l = l.found.items ≡ take l.place (seen_objects l.transcript.accesses)
