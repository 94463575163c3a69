use Rattle.std.proofs.Common.{◌≡◌}
use Rattle.topk_theory.specs.Threshold.{ta_run_to}
use Rattle.test_plain.proofs.blocks.ta_run.Given as goal

abbrev pub invariant-loop-depth : goal.invariant-loop-depth
invariant-loop-depth l = l.accesses.items ≡ ta_run_to l.lists l.depth
