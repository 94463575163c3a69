use Rattle.std.proofs.Common.{◌≡◌, take}
use Rattle.query_admission.specs.View.{versions_at}
use Rattle.query_admission.proofs.admission.versions_of.Given as goal

-- the versions of the lists so far
abbrev pub invariant-loop-list : goal.invariant-loop-list
invariant-loop-list l = l.versions.items ≡ versions_at (take l.list-index l.lists)
