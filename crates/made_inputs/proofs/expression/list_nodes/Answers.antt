use Rattle.std.proofs.Common.{refl, arith}
use Rattle.monotone_fn.specs.Shown.{tree_of}
use Rattle.monotone_fn.specs.Tree.{Tree}
use Rattle.made_inputs.proofs.Growing.{grown}
use Rattle.made_inputs.proofs.expression.list_nodes.Goals as goal

pub loop-list-preserved : goal.loop-list-preserved
loop-list-preserved c =
    let kept = c.loop-list.invariant in
    let many = kept.many in
    let room = kept.room in
    record {
      trees = grown tree_of Tree.Grade 0 c.loop-list.list c.loop-list.list c.loop-list.nodes.items c.push_reserved.new.self.items _ (omega arith) kept.trees c.push_reserved.ensures.items refl;
      many = omega (arith, many, c.push_reserved.ensures.len);
      room = omega (arith, room, c.push_reserved.ensures.capacity);
    }
