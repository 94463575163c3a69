use Rattle.std.proofs.Common.{◌≡◌, ◌++◌}
use Rattle.test_plain.proofs.Asking.{missing_so_far}
use Rattle.test_plain.proofs.phases.add_missing_grades.Given as goal

abbrev pub invariant-loop-list : goal.invariant-loop-list
invariant-loop-list l = l.missing.items ≡ l.fn.missing.items ++ missing_so_far l.lists l.accesses l.object l.list
