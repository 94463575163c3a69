use Rattle.std.proofs.Common.{◌≡◌}
use Rattle.monotone_fn.specs.Value.{value}
use Rattle.topk_theory.specs.Combined.{ca_run_to}
use Rattle.test_plain.proofs.combined.ca_run_to.Given as goal

abbrev pub invariant-loop-above : goal.invariant-loop-above
invariant-loop-above l = l.accesses.items ≡ ca_run_to (value l.expr) l.k l.phase l.lists l.above
