use Rattle.std.proofs.Common.{◌≡◌, ◌++◌, ◌∷◌, [], ◌+◌, Vec, Global, length, ap, ◌∙◌, arith, length-append}
use Rattle.monotone_fn.specs.Value.{value}
use Rattle.ranked_list.specs.declared.item.Item.{Item}
use Rattle.nra_core.proofs.Collected.{one_collected, none_collected}
use Rattle.nra_core.proofs.ending.collect.Goals as goal
use Rattle.nra_core.proofs.ending.collect.Goals.{then-low-bound, else-low-bound}

pub loop-place-preserved : goal.loop-place-preserved
loop-place-preserved c =
    let t = c.args.transcript.now in
    let l = c.loop-place in
    elim c.if-low-bound.branch [
      | then-low-bound w ↦ (
          let made : Item = record { object = c.object_at-object.result; low = c.low-low.result; high = w.high.result } in
          let now : c.if-low-bound.items.items ≡ l.items.items ++ made ∷ [] = ap (λ (v : Vec Item Global). v.items) w.items-is ∙ w.push_reserved.ensures.items in
          let size : length c.if-low-bound.items.items ≡ length (l.items.items ++ made ∷ []) = ap length now in
          let more : length (l.items.items ++ made ∷ []) ≡ length l.items.items + 1 = length-append l.items.items (made ∷ []) in
          record {
            items = one_collected (value c.args.expr.now) t.lists t.accesses c.args.bound l.place c.object_at-object.result c.low-low.result w.high.result l.items.items c.if-low-bound.items.items c.object_at-object.ensures c.low-low.ensures w.high.ensures w.if-low-bound.true l.invariant.items now;
            few = (let few = l.invariant.few in omega arith);
            capacity = (let r = l.invariant.capacity in let cap = w.push_reserved.ensures.capacity in let same : c.if-low-bound.items.cap ≡ _ = ap (λ (v : Vec Item Global). v.cap) w.items-is in omega arith);
          })
      | else-low-bound w ↦ (
          let now : c.if-low-bound.items.items ≡ l.items.items = ap (λ (v : Vec Item Global). v.items) w.items-is in
          let size : length c.if-low-bound.items.items ≡ length l.items.items = ap length now in
          record {
            items = now ∙ none_collected (value c.args.expr.now) t.lists t.accesses c.args.bound l.place c.object_at-object.result c.low-low.result l.items.items c.object_at-object.ensures c.low-low.ensures w.if-low-bound.false l.invariant.items;
            few = (let few = l.invariant.few in omega arith);
            capacity = (let r = l.invariant.capacity in let same : c.if-low-bound.items.cap ≡ _ = ap (λ (v : Vec Item Global). v.cap) w.items-is in omega arith);
          })
    ]
