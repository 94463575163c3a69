use Rattle.std.proofs.Common.{◌≡◌, ◌∙◌, List, length, is_some, sym, ap, subst, arith}
use Rattle.std.proofs.lemmas.List.{with_items_is}
use Rattle.std.proofs.lemmas.List.Sums.{count_by-le-length}
use Rattle.ranked_list.specs.declared.item.Item.{Item}
use Rattle.machine_base.specs.Held.{Held}
use Rattle.machine_base.specs.Halves.{joined}
use Rattle.topk_theory.specs.Order.{first_k, in_order, AreDistinct, IsFirstK}
use Rattle.topk_theory.proofs.InOrder.{length-in_order}
use Rattle.topk_theory.proofs.FirstK.{first_k-only}
use Rattle.machine_base.proofs.BoardLaws.{first_is, first_distinct, items_apart, first_k-holds, HaveOnePlace-joined}
use Rattle.machine_base.proofs.Rising.{length-items_in}
use Rattle.machine_base.proofs.board.Board.first.Goals as goal

pub put_in_order-requires : goal.put_in_order-requires
put_in_order-requires c =
    let ranking = c.self.inside.ranking in
    let kept = c.self.invariant.0 in
    let apart = HaveOnePlace-joined c.self.inside.places.keys (joined ranking.top ranking.rest) kept.fits.distinct kept.ranks in
    subst (λ (items : List Item). AreDistinct items) (sym (c.deref_mut.ensures.value ∙ c.in_ok-items.ensures)) (first_distinct ranking.k ranking.top ranking.rest kept.halved apart)

pub from_vec-requires : goal.from_vec-requires
from_vec-requires c =
    let ranking = c.self.inside.ranking in
    let kept = c.self.invariant.0 in
    let fits = kept.fits in
    let few = fits.few in
    let size = kept.size in
    let items = ap length c.in_ok-items.ensures ∙ length-items_in ranking.top in
    let counted = count_by-le-length is_some ranking.top in
    let len = c.in_ok-items.items.ok.0 in
    omega arith

pub returns-clause-by_order : goal.returns-clause-by_order
returns-clause-by_order c =
    let ranking = c.self.inside.ranking in
    let kept = c.self.invariant.0 in
    let apart = HaveOnePlace-joined c.self.inside.places.keys (joined ranking.top ranking.rest) kept.fits.distinct kept.ranks in
    let len : length c.put_in_order.new.items ≡ c.in_ok-items.items.len = ap length c.put_in_order.ensures ∙ length-in_order c.deref_mut.result.now ∙ c.deref_mut.ensures.len in
    c.from_vec.ensures ∙ with_items_is c.in_ok-items.items c.put_in_order.new.items len
    ∙ c.put_in_order.ensures ∙ ap in_order (c.deref_mut.ensures.value ∙ c.in_ok-items.ensures)
    ∙ first_is ranking.k ranking.top ranking.rest kept.halved apart
    ∙ ap (λ (v : Held). first_k v.k v.items) c.self.view_is

pub returns-clause-none_ahead : goal.returns-clause-none_ahead
returns-clause-none_ahead c =
    let ranking = c.self.inside.ranking in
    let kept = c.self.invariant.0 in
    let apart = HaveOnePlace-joined c.self.inside.places.keys (joined ranking.top ranking.rest) kept.fits.distinct kept.ranks in
    subst (IsFirstK c.args.self.k c.args.self.items) (sym (returns-clause-by_order c))
    (subst (λ (v : Held). IsFirstK v.k v.items (first_k v.k v.items)) c.self.view_is (first_k-holds ranking.k ranking.top ranking.rest kept.halved apart))

pub returns-clause-only : goal.returns-clause-only
returns-clause-only c = λ others is.
    let ranking = c.self.inside.ranking in
    let kept = c.self.invariant.0 in
    let apart = HaveOnePlace-joined c.self.inside.places.keys (joined ranking.top ranking.rest) kept.fits.distinct kept.ranks in
    let distinct = subst (λ (v : Held). AreDistinct v.items) c.self.view_is (items_apart ranking.k ranking.top ranking.rest kept.halved apart) in
    first_k-only c.args.self.k c.args.self.items others distinct is ∙ sym (returns-clause-by_order c)
