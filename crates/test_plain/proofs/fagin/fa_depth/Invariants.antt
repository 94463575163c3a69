use Rattle.std.proofs.Common.{◌≡◌, ◌-◌}
use Rattle.topk_theory.specs.Threshold.{least_from}
use Rattle.algorithm_theory.specs.Fagin.{fa_stop}
use Rattle.test_plain.proofs.fagin.fa_depth.Given as goal

abbrev pub invariant-loop-depth : goal.invariant-loop-depth
invariant-loop-depth l = least_from (fa_stop l.k l.lists) (l.count - 1) 1 ≡ least_from (fa_stop l.k l.lists) (l.count - l.depth) l.depth
