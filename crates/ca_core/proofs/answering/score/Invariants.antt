use Rattle.std.proofs.Common.{◌≡◌, ◌++◌, map, take, drop}
use Rattle.ranked_list.specs.declared.item.Item.{Item}
use Rattle.monotone_fn.specs.Value.{value}
use Rattle.ca_core.specs.Course.{valued}
use Rattle.ca_core.proofs.answering.score.Given as goal

abbrev pub invariant-loop-item : goal.invariant-loop-item
invariant-loop-item l = l.items ≡ map (λ (item : Item). valued (value l.expr) l.transcript.lists l.transcript.accesses item.object) (take l.item-index l.fn.items) ++ drop l.item-index l.fn.items
