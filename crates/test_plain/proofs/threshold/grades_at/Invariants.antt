use Rattle.std.proofs.Common.{◌≡◌, map, take, length}
use Rattle.topk_theory.specs.Threshold.{row_at}
use Rattle.test_plain.proofs.threshold.grades_at.Given as goal

abbrev pub invariant-loop-list : goal.invariant-loop-list
invariant-loop-list l = (length l.grades ≡ 8) × (take l.list l.grades ≡ map (λ rows. (row_at rows l.depth).grade) (take l.list l.lists))
