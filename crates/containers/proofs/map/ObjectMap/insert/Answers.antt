use Rattle.std.proofs.Common.{◌≡◌, Some, length, slice_set, sym, ap, ◌∙◌, arith}
use Rattle.std.proofs.lemmas.List.{length-set, with_items_is}
use Rattle.containers.proofs.Found.{past_near, set_near, set_far}
use Rattle.containers.proofs.map.ObjectMap.insert.Goals as goal

pub returns-then-object-len-clause-set : goal.returns-then-object-len-clause-set
returns-then-object-len-clause-set g c = λ other.
    let near = c.self.inside.near in
    let written : c.write.new.near ≡ slice_set near.items c.args.object (Some c.args.value) =
    c.write.ensures ∙ ap (λ xs. slice_set xs c.args.object (Some c.args.value)) c.deref_mut.ensures.value in
    set_near c.args.self.now near.items _ c.self.inside.far.entries _ c.args.object c.args.value c.self.view_is (omega (arith, c.if-object-len.true, c.len.ensures, near.ok.0))
    (with_items_is near c.write.new.near (ap length written ∙ length-set near.items c.args.object (Some c.args.value) ∙ sym near.ok.0) ∙ written) other

pub returns-clause-before : goal.returns-clause-before
returns-clause-before g c =
    let near = c.self.inside.near in
    past_near c.args.self.now near.items c.self.inside.far.entries _ c.args.object c.in-Ok.before c.self.view_is (omega (arith, c.if-object-len.false, c.len.ensures, near.ok.0)) c.in-Ok.ensures.old

pub returns-clause-set : goal.returns-clause-set
returns-clause-set g c = λ other.
    let near = c.self.inside.near in
    set_far c.args.self.now near.items c.self.inside.far.entries c.insert.new.self.entries _ c.args.object c.args.value c.self.view_is (omega (arith, c.if-object-len.false, c.len.ensures, near.ok.0)) c.in-Ok.ensures.updates.0 other
