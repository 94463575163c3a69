use Rattle.std.proofs.Common.{◌∙◌, [], ap}
use Rattle.std.specs.List.{flat_map}
use Rattle.std.proofs.lemmas.List.{take_all}
use Rattle.topk_theory.specs.Combined.{missing_grades}
use Rattle.test_plain.proofs.Making.{flat_more}
use Rattle.test_plain.proofs.fagin.asks_after.Goals as goal

pub loop-object-init : goal.loop-object-init
loop-object-init c = c.new-asked.ensures.items

pub loop-object-preserved : goal.loop-object-preserved
loop-object-preserved c =
    flat_more (missing_grades c.args.lists.now c.args.accesses.now) c.deref-object-items.result.now c.loop-object.object-index 0 []
    c.loop-object.asked.items c.add_missing_grades.new.missing.items c.loop-object-test.true c.in_ok-add_missing_grades.ensures c.loop-object.invariant

pub returns : goal.returns
returns c =
    c.loop-object.invariant
    ∙ ap (flat_map (missing_grades c.args.lists.now c.args.accesses.now))
    (take_all c.loop-object.object-index c.deref-object-items.result.now c.loop-object-test.false ∙ c.deref-object-items.ensures.value ∙ c.in_ok-seen.ensures)
