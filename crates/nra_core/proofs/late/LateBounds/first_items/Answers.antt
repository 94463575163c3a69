use Rattle.std.proofs.Common.{◌∙◌}
use Rattle.monotone_fn.specs.Value.{value}
use Rattle.nra_core.proofs.Collected.{distinct_collected, first_collected, first_taken}
use Rattle.nra_core.proofs.late.LateBounds.first_items.Goals as goal

pub put_in_order-requires : goal.put_in_order-requires
put_in_order-requires c =
    let t = c.args.transcript.now in
    distinct_collected (value c.args.expr.now) t.lists t.accesses c.in-Some.bound c.deref_mut.result.now (c.deref_mut.ensures.value ∙ c.collect.ensures.items)

pub returns-clause-items : goal.returns-clause-items
returns-clause-items c =
    let s = c.args.self.now in
    let t = c.args.transcript.now in
    c.truncate.ensures.items ∙ first_taken s.k c.collect.new.items.len c.deref_mut.result.now c.put_in_order.new.items _ c.put_in_order.ensures c.deref_mut.ensures.len
    ∙ first_collected (value c.args.expr.now) s.k t.lists t.accesses s.first s.candidates c.in-Some.bound c.deref_mut.result.now c.put_in_order.new.items c.requires.kept.kept c.in-Some.ensures (c.deref_mut.ensures.value ∙ c.collect.ensures.items) c.put_in_order.ensures
