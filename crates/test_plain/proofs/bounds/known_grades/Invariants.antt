use Rattle.std.proofs.Common.{◌≡◌, map, take, length}
use Rattle.topk_theory.specs.Transcript.{list_numbers}
use Rattle.topk_theory.specs.Bounds.{known_grade}
use Rattle.test_plain.proofs.bounds.known_grades.Given as goal

abbrev pub invariant-loop-list : goal.invariant-loop-list
invariant-loop-list l = (length l.known ≡ 8) × (take l.list l.known ≡ map (λ list. known_grade l.accesses l.object list) (list_numbers l.list))
