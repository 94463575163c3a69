use Rattle.std.proofs.Common.{◌≡◌, true, nat_lt, take}
use Rattle.std.specs.List.{list_all}
use Rattle.ranked_list.specs.Table.{place_in}
use Rattle.test_plain.proofs.fagin.stands_in_all.Given as goal

abbrev pub invariant-loop-list : goal.invariant-loop-list
invariant-loop-list l = list_all (λ rows. nat_lt (place_in rows l.object) l.depth) (take l.list-index l.lists) ≡ true
