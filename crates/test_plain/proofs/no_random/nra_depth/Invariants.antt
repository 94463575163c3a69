use Rattle.std.proofs.Common.{◌≡◌, ◌-◌, length}
use Rattle.monotone_fn.specs.Value.{value}
use Rattle.topk_theory.specs.Threshold.{least_from}
use Rattle.topk_theory.specs.NoRandom.{is_quiet, nra_run_to}
use Rattle.test_plain.proofs.no_random.nra_depth.Given as goal

abbrev pub invariant-loop-depth : goal.invariant-loop-depth
invariant-loop-depth l = least_from (λ depth. is_quiet (value l.expr) l.k (length l.lists) l.lists (nra_run_to l.lists depth)) (l.count - 1) 1 ≡ least_from (λ depth. is_quiet (value l.expr) l.k (length l.lists) l.lists (nra_run_to l.lists depth)) (l.count - l.depth) l.depth
