use Rattle.std.proofs.Common.{◌≡◌, take}
use Rattle.ranked_list.specs.Table.{objects}
use Rattle.test_plain.proofs.table.objects.Given as goal

abbrev pub invariant-loop-place : goal.invariant-loop-place
invariant-loop-place l = l.found.items ≡ objects (take l.place l.list)
