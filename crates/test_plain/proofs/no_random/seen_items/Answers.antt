use Rattle.std.proofs.Common.{[], ◌∷◌, ◌++◌, ◌∙◌, map, ap}
use Rattle.std.proofs.lemmas.List.{take_all}
use Rattle.ranked_list.specs.declared.item.Item.{Item}
use Rattle.monotone_fn.specs.Shape.{list_count}
use Rattle.monotone_fn.specs.Value.{value}
use Rattle.topk_theory.specs.Bounds.{bounded}
use Rattle.test_plain.proofs.Making.{map_more}
use Rattle.test_plain.proofs.no_random.seen_items.Goals as goal

pub loop-object-init : goal.loop-object-init
loop-object-init c = c.new-items.ensures.items

pub loop-object-preserved : goal.loop-object-preserved
loop-object-preserved c =
    map_more (bounded (value c.args.expr.now) (list_count c.args.expr.now) c.args.accesses.now) c.deref-object-items.result.now c.loop-object.object-index 0 c.loop-object.items.items c.push.new.self.items
    c.loop-object-test.true (c.in_ok-push.ensures.items ∙ ap (λ (item : Item). c.loop-object.items.items ++ item ∷ []) c.bounded.ensures) c.loop-object.invariant

pub returns : goal.returns
returns c =
    c.loop-object.invariant
    ∙ ap (map (bounded (value c.args.expr.now) (list_count c.args.expr.now) c.args.accesses.now)) (take_all c.loop-object.object-index c.deref-object-items.result.now c.loop-object-test.false ∙ c.deref-object-items.ensures.value ∙ c.in_ok-objects.ensures)
