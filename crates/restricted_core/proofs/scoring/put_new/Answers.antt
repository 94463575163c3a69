use Rattle.std.proofs.Common.{length, drop, ap, ◌∙◌, arith}
use Rattle.monotone_fn.specs.Value.{value}
use Rattle.topk_theory.specs.Transcript.{seen_objects}
use Rattle.machine_base.specs.Held.{Held}
use Rattle.machine_base.proofs.HeldLaws.{length-put_item}
use Rattle.restricted_core.specs.Course.{items_with}
use Rattle.restricted_core.proofs.Boards.{one_put}
use Rattle.restricted_core.proofs.scoring.put_new.Goals as goal

pub loop-at-preserved : goal.loop-at-preserved
loop-at-preserved c =
    let b = c.args.base.now in
    let l = c.loop-at in
    let seen = seen_objects b.transcript.accesses in
    record {
      items = one_put (value b.expr) b.transcript.lists b.transcript.accesses seen l.at c.object_at-object.result c.low-aggregate.result l.board.items c.put.new.self.items
          (items_with (value b.expr) b.transcript.lists b.transcript.accesses (drop c.args.place seen) c.args.board.now.items)
          c.object_at-object.ensures c.low-aggregate.ensures (ap (λ (h : Held). h.items) c.put.ensures) l.invariant.items;
      few = (let same = ap (λ (h : Held). length h.items) c.put.ensures in let few = l.invariant.few in omega (arith, same, few, length-put_item));
      same_k = ap (λ (h : Held). h.k) c.put.ensures ∙ l.invariant.same_k;
      same_room = ap (λ (h : Held). h.room) c.put.ensures ∙ l.invariant.same_room;
    }
