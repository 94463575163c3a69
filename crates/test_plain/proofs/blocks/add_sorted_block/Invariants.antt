use Rattle.std.proofs.Common.{◌≡◌, ◌++◌}
use Rattle.topk_theory.specs.Threshold.{sorted_block}
use Rattle.test_plain.proofs.Making.{sorted_so_far}
use Rattle.test_plain.proofs.blocks.add_sorted_block.Given as goal

abbrev pub invariant-loop-list : goal.invariant-loop-list
invariant-loop-list l = sorted_so_far l.accesses.items l.list l.depth l.lists ≡ l.fn.accesses.items ++ sorted_block 0 l.depth l.lists
