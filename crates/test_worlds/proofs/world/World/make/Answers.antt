use Rattle.std.proofs.Common.{ap, length, arith}
use Rattle.test_worlds.specs.Worlds.{world_of}
use Rattle.query_run.specs.Made.{IsFresh}
use Rattle.test_worlds.specs.Kept.{IsWorld}
use Rattle.query_run.proofs.Lists.{zip_length}
use Rattle.query_run.proofs.TurnOpening.{opened_length}
use Rattle.test_worlds.proofs.Stepping.{made_world, made_of}
use Rattle.test_worlds.proofs.world.World.make.Goals as goal

world : (c : goal.In-Ok) → IsWorld (world_of c.fill.new.states.items c.fill.new.queries.items)
world c = made_world c.args.counts.now c.args.queries.now (world_of c.fill.new.states.items c.fill.new.queries.items) c.requires.counts c.requires.ready c.in-Ok.ensures

pub invariant_of-result : goal.invariant_of-result
invariant_of-result c =
    let sources = ap length c.in-Ok.ensures.states in
    let opened = opened_length 0 c.args.counts.now in
    let queries = zip_length IsFresh c.args.queries.now c.fill.new.queries.items c.in-Ok.ensures.queries in
    (world c, omega (arith, sources, opened, c.requires.sources, c.fill.new.states.ok.0), omega (arith, queries, c.requires.queries, c.fill.new.queries.ok.0))

pub returns-clause-world : goal.returns-clause-world
returns-clause-world c = world c

pub returns-clause-queries : goal.returns-clause-queries
returns-clause-queries c = made_of c.args.counts.now c.args.queries.now (world_of c.fill.new.states.items c.fill.new.queries.items) c.in-Ok.ensures
