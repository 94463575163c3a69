use Rattle.std.proofs.Common.{◌-◌, length}
use Rattle.topk_base.specs.Numbers.{AreDigitsBefore}
use Rattle.topk_base.proofs.fronts.number_front.Given as goal

abbrev pub invariant-loop-place : goal.invariant-loop-place
invariant-loop-place l = AreDigitsBefore l.text l.place l.value

abbrev pub decreases-loop-place : goal.decreases-loop-place
decreases-loop-place l = length l.text - l.place
