use Rattle.std.proofs.Common.{arith}
use Rattle.containers.proofs.Found.{same_grown}
use Rattle.containers.proofs.map.ObjectMap.widen.Goals as goal

pub returns-in_ok-resize-clause-same : goal.returns-in_ok-resize-clause-same
returns-in_ok-resize-clause-same g c = λ object.
    let near = c.self.inside.near in
    same_grown c.args.self.now near.items c.resize.new.self.items c.self.inside.far.entries _ c.min-len.result _ c.self.view_is (omega (arith, c.len.ensures, near.ok.0)) c.in_ok-resize.ensures.items object
