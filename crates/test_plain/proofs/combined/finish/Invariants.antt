use Rattle.std.proofs.Common.{◌≡◌, take}
use Rattle.std.specs.List.{flat_map}
use Rattle.ranked_list.specs.declared.item.Item.{Item}
use Rattle.topk_theory.specs.Combined.{missing_grades}
use Rattle.test_plain.proofs.combined.finish.Given as goal

abbrev pub invariant-loop-item : goal.invariant-loop-item
invariant-loop-item l = l.asked.items ≡ flat_map (λ (item : Item). missing_grades l.lists l.accesses item.object) (take l.item-index l.item-items)
