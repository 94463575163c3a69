use Rattle.std.proofs.Common.{◌≡◌, map, take}
use Rattle.monotone_fn.specs.Value.{value}
use Rattle.topk_theory.specs.Threshold.{scored}
use Rattle.test_plain.proofs.threshold.items_of.Given as goal

abbrev pub invariant-loop-object : goal.invariant-loop-object
invariant-loop-object l = l.items.items ≡ map (scored (value l.expr) l.lists) (take l.object-index l.objects)
