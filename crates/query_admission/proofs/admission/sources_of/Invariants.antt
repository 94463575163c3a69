use Rattle.std.proofs.Common.{◌≡◌, map, take}
use Rattle.query_admission.proofs.admission.sources_of.Given as goal

-- the sources of the lists so far
abbrev pub invariant-loop-list : goal.invariant-loop-list
invariant-loop-list l = l.sources.items ≡ map (λ list. list.source) (take l.list-index l.lists)
