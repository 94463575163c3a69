use Rattle.std.proofs.Common.{arith}
use Rattle.machine_base.proofs.Unknown.{known_at, known_length, tells_unknown}
use Rattle.machine_base.proofs.asking.is_unknown.Goals as goal

pub bounds-known-list : goal.bounds-known-list
bounds-known-list c =
    let long = known_length c.args.transcript.now.lists c.args.transcript.now.accesses c.args.object c.known.result.now c.known.ensures.known in
    omega (arith, long, c.requires)

pub returns : goal.returns
returns c =
    tells_unknown _ _ c.is_none.result (known_at c.args.transcript.now.lists c.args.list c.args.transcript.now.accesses c.args.object c.known.result.now _ c.requires c.known.ensures.known)
    c.is_none.ensures
