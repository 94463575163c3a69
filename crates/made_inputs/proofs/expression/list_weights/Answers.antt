use Rattle.std.proofs.Common.{◌+◌, ap, arith}
use Rattle.monotone_fn.specs.Shown.{term_of}
use Rattle.monotone_fn.specs.Tree.{Tree}
use Rattle.made_inputs.proofs.Growing.{grown}
use Rattle.made_inputs.proofs.expression.list_weights.Goals as goal

pub loop-list-preserved : goal.loop-list-preserved
loop-list-preserved c =
    let kept = c.loop-list.invariant in
    let many = kept.many in
    let room = kept.room in
    record {
      terms = grown term_of (λ list. (list + 1, Tree.Grade list)) 0 c.loop-list.list c.loop-list.list c.loop-list.weights.items c.push_reserved.new.self.items _ (omega arith) kept.terms c.push_reserved.ensures.items (ap (λ n. (n + 1, Tree.Grade c.loop-list.list)) c.from-in-loop-list.ensures);
      many = omega (arith, many, c.push_reserved.ensures.len);
      room = omega (arith, room, c.push_reserved.ensures.capacity);
    }
