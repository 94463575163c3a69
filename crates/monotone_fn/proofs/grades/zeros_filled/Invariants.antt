use Rattle.std.proofs.Common.{◌≡◌, length, take}
use Rattle.monotone_fn.specs.Value.{with_zeros}
use Rattle.monotone_fn.proofs.grades.zeros_filled.Given as goal
use Rattle.topk_base.specs.declared.TheConstants.{MAX_LISTS}

abbrev pub invariant-loop-list : goal.invariant-loop-list
invariant-loop-list l = record {
  room : length l.grades ≡ MAX_LISTS;
  filled : take l.list l.grades ≡ with_zeros (take l.list l.known);
}
