use Rattle.std.proofs.Common.{◌≡◌, map, take, length}
use Rattle.ranked_list.specs.Table.{grade_in}
use Rattle.test_plain.proofs.table.grades_of.Given as goal

abbrev pub invariant-loop-list : goal.invariant-loop-list
invariant-loop-list l = (length l.grades ≡ 8) × (take l.list l.grades ≡ map (λ rows. grade_in rows l.object) (take l.list l.lists))
