use Rattle.std.proofs.Common.{◌≡◌, map, take}
use Rattle.ranked_list.specs.declared.item.Item.{Item}
use Rattle.monotone_fn.specs.Value.{value}
use Rattle.topk_theory.specs.Bounds.{low}
use Rattle.cert_text.specs.Lows.{least_so_far}
use Rattle.cert_text.proofs.early.least_low.Given as goal

abbrev pub invariant-loop-item : goal.invariant-loop-item
invariant-loop-item l =
    l.least ≡ least_so_far (map (λ (item : Item). low (value l.expr) l.transcript.lists l.transcript.accesses item.object) (take l.item-index l.items))
