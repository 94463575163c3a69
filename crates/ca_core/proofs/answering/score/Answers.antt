use Rattle.std.proofs.Common.{get_or, ◌∙◌, arith}
use Rattle.ranked_list.specs.declared.item.Item.{Item}
use Rattle.monotone_fn.specs.Value.{value}
use Rattle.ca_core.specs.Course.{valued}
use Rattle.ca_core.proofs.Changing.{changed_more, all_changed}
use Rattle.ca_core.proofs.answering.score.Goals as goal

pub loop-item-preserved : goal.loop-item-preserved
loop-item-preserved c =
    let none : Item = record { object = 0; low = 0; high = 0 } in
    let change : Item → Item = λ item. valued (value c.args.expr.now) c.args.transcript.now.lists c.args.transcript.now.accesses item.object in
    changed_more change c.args.items.now c.loop-item.items c.loop-item.item-index none
    (record { object = (get_or c.loop-item.items c.loop-item.item-index none).object; low = c.low-aggregate.result; high = c.low-aggregate.result })
    (omega (arith, c.loop-item-test.true)) c.loop-item.invariant
    (λ i. record { object = (get_or c.loop-item.items c.loop-item.item-index none).object; low = c.low-aggregate.ensures i; high = c.low-aggregate.ensures i })

pub returns : goal.returns
returns c =
    let change : Item → Item = λ item. valued (value c.args.expr.now) c.args.transcript.now.lists c.args.transcript.now.accesses item.object in
    c.loop-item.invariant ∙ all_changed change c.args.items.now c.loop-item.item-index c.loop-item-test.false
