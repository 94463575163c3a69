use Rattle.std.proofs.Common.{◌≡◌, ◌++◌, take}
use Rattle.std.specs.List.{flat_map}
use Rattle.topk_theory.specs.Threshold.{sorted_block, random_block}
use Rattle.test_plain.proofs.blocks.add_block.Given as goal

abbrev pub invariant-loop-object : goal.invariant-loop-object
invariant-loop-object l = l.accesses.items ≡ (l.fn.accesses.items ++ sorted_block 0 l.depth l.lists) ++ flat_map (λ object. random_block 0 l.depth object l.lists) (take l.object-index l.object-items)
