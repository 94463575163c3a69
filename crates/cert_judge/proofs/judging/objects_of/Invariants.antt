use Rattle.std.proofs.Common.{◌≡◌, length, take}
use Rattle.topk_theory.specs.Threshold.{item_objects}
use Rattle.cert_judge.proofs.judging.objects_of.Given as goal

abbrev pub invariant-loop-item : goal.invariant-loop-item
invariant-loop-item l = l.objects.items ≡ item_objects (take (length l.yielded) l.items)
