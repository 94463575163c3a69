use Rattle.std.proofs.Common.{◌≡◌, ◌++◌}
use Rattle.topk_theory.specs.Threshold.{random_block}
use Rattle.test_plain.proofs.Making.{random_so_far}
use Rattle.test_plain.proofs.blocks.add_random_block.Given as goal

abbrev pub invariant-loop-list : goal.invariant-loop-list
invariant-loop-list l = random_so_far l.accesses.items l.list l.depth l.object l.lists ≡ l.fn.accesses.items ++ random_block 0 l.depth l.object l.lists
