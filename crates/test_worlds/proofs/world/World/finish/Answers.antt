use Rattle.std.proofs.Common.{sym, subst, arith}
use Rattle.std.specs.List.{AllZip}
use Rattle.test_worlds.specs.Worlds.{world_of}
use Rattle.test_worlds.specs.Kept.{IsWorld}
use Rattle.test_worlds.specs.Made.{AreOf}
use Rattle.query_run.specs.Endings.{IsRight}
use Rattle.test_worlds.proofs.Honest.{all_on_run}
use Rattle.test_worlds.proofs.Ending.{ended_right}
use Rattle.test_worlds.proofs.Making.{ending_count}
use Rattle.test_worlds.proofs.world.World.finish.Goals as goal

pub returns-in_default-clause-honest : goal.returns-in_default-clause-honest
returns-in_default-clause-honest c =
    λ lists is.
    all_on_run lists c.args.self (subst IsWorld c.self.view_is c.self.invariant.0) is

pub from_vec-requires : goal.from_vec-requires
from_vec-requires c =
    let many = ending_count c.self.inside.queries.items c.end_all.new.endings.items c.in-Ok.ensures in
    omega (arith, many, c.self.invariant.2, c.self.inside.queries.ok.0, c.end_all.new.endings.ok.0)

pub returns-clause-right : goal.returns-clause-right
returns-clause-right c =
    λ readies are.
    subst (AllZip IsRight readies) (sym c.from_vec.ensures)
    (ended_right readies (world_of c.self.inside.states.items c.self.inside.queries.items) c.end_all.new.endings.items c.self.invariant.0 (subst (AreOf readies) (sym c.self.view_is) are) c.in-Ok.ensures)

pub returns-clause-honest : goal.returns-clause-honest
returns-clause-honest c =
    λ lists is.
    all_on_run lists c.args.self (subst IsWorld c.self.view_is c.self.invariant.0) is
