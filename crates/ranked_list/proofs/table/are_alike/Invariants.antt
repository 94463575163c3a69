use Rattle.std.proofs.Common.{length, take}
use Rattle.std.specs.Prelude.{nat_eq}
use Rattle.std.specs.List.{All}
use Rattle.std.specs.HashSet.{contains}
use Rattle.ranked_list.specs.Rows.{IsAlike}
use Rattle.ranked_list.proofs.table.are_alike.Given as goal

abbrev pub invariant-loop-list : goal.invariant-loop-list
invariant-loop-list l = All (IsAlike (length l.first) (contains nat_eq l.set)) (take l.list-index l.lists)
