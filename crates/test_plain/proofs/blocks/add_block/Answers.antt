use Rattle.std.proofs.Common.{◌∙◌, ◌++◌, sym, ap, append_assoc, append-nil}
use Rattle.std.specs.List.{flat_map}
use Rattle.std.proofs.lemmas.List.{take_all}
use Rattle.topk_theory.specs.Threshold.{sorted_block, random_block}
use Rattle.test_plain.proofs.Making.{flat_more}
use Rattle.test_plain.proofs.blocks.add_block.Goals as goal

pub loop-object-init : goal.loop-object-init
loop-object-init c = c.in_ok-add_sorted_block.ensures ∙ sym (append-nil _)

pub loop-object-preserved : goal.loop-object-preserved
loop-object-preserved c =
    flat_more (λ object. random_block 0 c.args.depth object c.args.lists.now) c.deref-object-items.result.now c.loop-object.object-index 0
    (c.args.accesses.now.items ++ sorted_block 0 c.args.depth c.args.lists.now) c.loop-object.accesses.items c.add_random_block.new.accesses.items c.loop-object-test.true
    c.in_ok-add_random_block.ensures c.loop-object.invariant

pub returns : goal.returns
returns c =
    c.loop-object.invariant ∙ append_assoc c.args.accesses.now.items (sorted_block 0 c.args.depth c.args.lists.now) _
    ∙ ap (λ objects. c.args.accesses.now.items ++ (sorted_block 0 c.args.depth c.args.lists.now ++ flat_map (λ object. random_block 0 c.args.depth object c.args.lists.now) objects))
    (take_all c.loop-object.object-index c.deref-object-items.result.now c.loop-object-test.false ∙ c.deref-object-items.ensures.value ∙ c.in_ok-objects.ensures)
