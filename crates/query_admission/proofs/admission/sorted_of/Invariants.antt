use Rattle.std.proofs.Common.{◌≡◌, take}
use Rattle.query_admission.specs.View.{sorted_at}
use Rattle.query_admission.proofs.admission.sorted_of.Given as goal

-- the sorted accesses of the lists so far
abbrev pub invariant-loop-list : goal.invariant-loop-list
invariant-loop-list l = l.sorted.items ≡ sorted_at (take l.list-index l.lists)
