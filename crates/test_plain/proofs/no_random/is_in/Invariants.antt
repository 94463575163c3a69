use Rattle.std.proofs.Common.{◌≡◌, ◌==◌, false, take}
use Rattle.std.specs.List.{list_any}
use Rattle.ranked_list.specs.declared.item.Item.{Item}
use Rattle.test_plain.proofs.no_random.is_in.Given as goal

abbrev pub invariant-loop-item : goal.invariant-loop-item
invariant-loop-item l = list_any (λ (item : Item). item.object == l.object) (take l.item-index l.items) ≡ false
