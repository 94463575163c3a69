use Rattle.std.proofs.Common.{◌∙◌, [], sym, ap}
use Rattle.std.specs.List.{flat_map}
use Rattle.std.proofs.lemmas.List.{take_all}
use Rattle.ranked_list.specs.declared.item.Item.{Item}
use Rattle.monotone_fn.specs.Value.{value}
use Rattle.topk_theory.specs.NoRandom.{first_seen}
use Rattle.topk_theory.specs.Combined.{missing_grades}
use Rattle.test_plain.proofs.Making.{flat_more}
use Rattle.test_plain.proofs.combined.finish.Goals as goal

pub loop-item-init : goal.loop-item-init
loop-item-init c = c.new-asked.ensures.items

pub loop-item-preserved : goal.loop-item-preserved
loop-item-preserved c =
    flat_more (λ (item : Item). missing_grades c.args.lists.now c.args.accesses.now item.object) c.deref-item-items.result.now c.loop-item.item-index _ []
    c.loop-item.asked.items c.add_missing_grades.new.missing.items c.loop-item-test.true c.in_ok-add_missing_grades.ensures c.loop-item.invariant

pub returns : goal.returns
returns c =
    c.loop-item.invariant
    ∙ ap (λ items. flat_map (λ (item : Item). missing_grades c.args.lists.now c.args.accesses.now item.object) items)
    (take_all c.loop-item.item-index c.deref-item-items.result.now c.loop-item-test.false ∙ c.deref-item-items.ensures.value ∙ c.in_ok-first.ensures
    ∙ ap (λ m. first_seen (value c.args.expr.now) c.args.k m c.args.accesses.now) (sym c.requires.posed.lists))
