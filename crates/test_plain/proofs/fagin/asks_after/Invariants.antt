use Rattle.std.proofs.Common.{◌≡◌, take}
use Rattle.std.specs.List.{flat_map}
use Rattle.topk_theory.specs.Combined.{missing_grades}
use Rattle.test_plain.proofs.fagin.asks_after.Given as goal

abbrev pub invariant-loop-object : goal.invariant-loop-object
invariant-loop-object l = l.asked.items ≡ flat_map (missing_grades l.lists l.accesses) (take l.object-index l.object-items)
