use Rattle.std.proofs.Common.{length, ap, ◌∙◌, arith}
use Rattle.machine_base.specs.Held.{Held}
use Rattle.machine_base.proofs.HeldLaws.{length-put_item}
use Rattle.test_parts.proofs.board.put_all.Goals as goal

pub loop-object-preserved : goal.loop-object-preserved
loop-object-preserved c = (
  ap (λ (v : Held). v.room) c.put.ensures ∙ c.loop-object.invariant.0,
  let same = ap (λ (v : Held). length v.items) c.put.ensures in
      let most = c.loop-object.invariant.1 in
      omega (arith, same, most, length-put_item),
)
