use Rattle.std.proofs.Common.{◌≡◌, false, nat_lt, take}
use Rattle.std.specs.List.{list_any}
use Rattle.ranked_list.specs.Table.{place_in}
use Rattle.test_plain.proofs.threshold.stands.Given as goal

abbrev pub invariant-loop-list : goal.invariant-loop-list
invariant-loop-list l = list_any (λ rows. nat_lt (place_in rows l.object) l.depth) (take l.list-index l.lists) ≡ false
