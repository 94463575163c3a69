use Rattle.std.proofs.Common.{◌≡◌, rules}
use Rattle.std.proofs.lemmas.Fn.{always_returns_same}
use Rattle.machine_base.specs.Rank.{rank_of}
use Rattle.topk_theory.proofs.SortedItems.{sorted_in_order}
use Rattle.machine_base.proofs.order.put_in_order.Goals as goal

pub returns : goal.returns
returns c =
    sorted_in_order c.args.items.now c.sort_unstable_by_key.new.self c.requires c.sort_unstable_by_key.ensures.permutation
    (c.sort_unstable_by_key.ensures.sorted rank_of (always_returns_same _ (λ a r. r ≡ rank_of a.0.now) _ (λ a r q k. search rules)))
