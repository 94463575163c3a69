use Rattle.std.proofs.Common.{◌≡◌, length, take}
use Rattle.monotone_fn.specs.Value.{with_bottoms}
use Rattle.monotone_fn.proofs.grades.bottoms_filled.Given as goal
use Rattle.topk_base.specs.declared.TheConstants.{MAX_LISTS}

abbrev pub invariant-loop-list : goal.invariant-loop-list
invariant-loop-list l = record {
  room : length l.grades ≡ MAX_LISTS;
  filled : take l.list l.grades ≡ take l.list (with_bottoms l.known l.bottoms);
}
