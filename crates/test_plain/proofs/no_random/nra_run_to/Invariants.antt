use Rattle.std.proofs.Common.{◌≡◌}
use Rattle.topk_theory.specs.NoRandom.{nra_run_to}
use Rattle.test_plain.proofs.no_random.nra_run_to.Given as goal

abbrev pub invariant-loop-above : goal.invariant-loop-above
invariant-loop-above l = l.accesses.items ≡ nra_run_to l.lists l.above
