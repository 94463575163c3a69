use Rattle.std.proofs.Common.{◌≡◌, ◌+◌, [], ◌∷◌, ◌++◌, length, ap, arith, length-append}
use Rattle.ranked_list.specs.declared.item.Item.{Item}
use Rattle.monotone_fn.specs.Value.{value}
use Rattle.fa_core.proofs.Scoring.{one_collected}
use Rattle.fa_core.proofs.answering.collect.Goals as goal

pub loop-place-preserved : goal.loop-place-preserved
loop-place-preserved c =
    let t = c.args.transcript.now in
    let l = c.loop-place in
    let made : Item = record { object = c.object_at-object.result; low = c.low-aggregate.result; high = c.low-aggregate.result } in
    let size : length c.push_reserved.new.self.items ≡ length (l.items.items ++ made ∷ []) = ap length c.push_reserved.ensures.items in
    let more : length (l.items.items ++ made ∷ []) ≡ length l.items.items + 1 = length-append l.items.items (made ∷ []) in
    record {
      items = one_collected (value c.args.expr.now) t.lists t.accesses l.place c.object_at-object.result c.low-aggregate.result l.items.items c.push_reserved.new.self.items c.object_at-object.ensures c.low-aggregate.ensures l.invariant.items c.push_reserved.ensures.items;
      few = (let few = l.invariant.few in omega arith);
      capacity = (let before = l.invariant.capacity in let now = c.push_reserved.ensures.capacity in omega arith);
    }
