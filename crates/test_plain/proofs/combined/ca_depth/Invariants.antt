use Rattle.std.proofs.Common.{◌≡◌, ◌-◌, length}
use Rattle.monotone_fn.specs.Value.{value}
use Rattle.topk_theory.specs.Threshold.{least_from}
use Rattle.topk_theory.specs.NoRandom.{is_quiet}
use Rattle.topk_theory.specs.Combined.{ca_run_to}
use Rattle.test_plain.proofs.combined.ca_depth.Given as goal

abbrev pub invariant-loop-depth : goal.invariant-loop-depth
invariant-loop-depth l = least_from (λ depth. is_quiet (value l.expr) l.k (length l.lists) l.lists (ca_run_to (value l.expr) l.k l.phase l.lists depth)) (l.count - 1) 1 ≡ least_from (λ depth. is_quiet (value l.expr) l.k (length l.lists) l.lists (ca_run_to (value l.expr) l.k l.phase l.lists depth)) (l.count - l.depth) l.depth
