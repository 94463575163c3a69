use Rattle.std.proofs.Common.{◌≡◌, take}
use Rattle.topk_theory.specs.Transcript.{seen_objects}
use Rattle.test_plain.proofs.bounds.seen_objects.Given as goal

abbrev pub invariant-loop-access : goal.invariant-loop-access
invariant-loop-access l = l.objects.items ≡ seen_objects (take l.access-index l.accesses)
