use Rattle.std.proofs.Common.{◌≡◌, ◌-◌}
use Rattle.monotone_fn.specs.Value.{value}
use Rattle.topk_theory.specs.Threshold.{least_from, ta_stop}
use Rattle.test_plain.proofs.threshold.ta_depth.Given as goal

abbrev pub invariant-loop-depth : goal.invariant-loop-depth
invariant-loop-depth l = least_from (ta_stop (value l.expr) l.k l.lists) (l.count - 1) 1 ≡ least_from (ta_stop (value l.expr) l.k l.lists) (l.count - l.depth) l.depth
