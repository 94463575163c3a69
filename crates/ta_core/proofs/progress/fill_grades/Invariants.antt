use Rattle.std.proofs.Common.{◌≡◌, ◌-◌, length}
use Rattle.ta_core.specs.Reading.{filled}
use Rattle.ta_core.proofs.progress.fill_grades.Given as goal

abbrev pub invariant-loop-grades : goal.invariant-loop-grades
invariant-loop-grades l = filled l.objects l.bottoms l.object l.grades.items ≡ filled l.objects l.bottoms l.object l.initial.grades.items

abbrev pub decreases-loop-grades : goal.decreases-loop-grades
decreases-loop-grades l = length l.objects - length l.grades.items
