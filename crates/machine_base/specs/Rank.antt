-- Ranks, as a board keeps them: items that compare in the board's order.
use Rattle.std.specs.declared.cmp.Ordering.{Ordering}
use Rattle.ranked_list.specs.declared.item.Item.{Item}
use Rattle.machine_base.specs.declared.rank.Rank.{Rank}
use Rattle.topk_theory.specs.Order.{item_cmp}

-- the item of a rank
abbrev pub item_of : Rank → Item
item_of rank = record { object = rank.object; low = rank.low; high = rank.high }

-- the rank of an item
abbrev pub rank_of : Item → Rank
rank_of item = record { low = item.low; high = item.high; object = item.object }

-- ranks compare as their items
abbrev pub rank_cmp : Rank → Rank → Ordering
rank_cmp a b = item_cmp (item_of a) (item_of b)
