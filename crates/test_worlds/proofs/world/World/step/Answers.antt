use Rattle.std.proofs.Common.{sym, subst, arith}
use Rattle.test_worlds.specs.Worlds.{WorldState, world_of}
use Rattle.test_worlds.specs.Steps.{MayStep}
use Rattle.test_worlds.specs.Kept.{IsAfter}
use Rattle.test_worlds.specs.Made.{AreOf}
use Rattle.test_worlds.specs.Honest.{IsHonest, IsTrueWorld}
use Rattle.test_worlds.proofs.Stepping.{Stepped, stepped}
use Rattle.test_worlds.proofs.Honest.{true_step}
use Rattle.test_worlds.proofs.world.World.step.Goals as goal

abbrev before : goal.After-take → WorldState
before c = world_of c.self.inside.states.items c.self.inside.queries.items

abbrev later : goal.After-take → WorldState
later c = world_of c.take.new.states.items c.take.new.queries.items

may : (c : goal.After-take) → MayStep (before c) c.args.step
may c = subst (λ w. MayStep w c.args.step) (sym c.self.view_is) c.requires

step : (c : goal.After-take) → Stepped (before c) (later c)
step c = stepped c.args.step (before c) (later c) c.self.invariant.0 (may c) c.take.ensures

pub invariant_of-self : goal.invariant_of-self
invariant_of-self c =
    let h = step c in
    (h.world, omega (arith, h.later.sources, c.self.invariant.1, c.self.inside.states.ok.0, c.take.new.states.ok.0), omega (arith, h.later.queries, c.self.invariant.2, c.self.inside.queries.ok.0, c.take.new.queries.ok.0))

pub returns-clause-world : goal.returns-clause-world
returns-clause-world c = (step c).world

pub returns-clause-later : goal.returns-clause-later
returns-clause-later c = subst (λ w. IsAfter w (later c)) c.self.view_is (step c).later

pub returns-clause-queries : goal.returns-clause-queries
returns-clause-queries c = λ readies are. (step c).queries readies (subst (AreOf readies) (sym c.self.view_is) are)

pub returns-clause-honest : goal.returns-clause-honest
returns-clause-honest c =
    λ lists is honest.
    true_step lists c.args.step (before c) (later c) c.self.invariant.0 (may c) c.take.ensures (subst (λ w. IsHonest lists w c.args.step) (sym c.self.view_is) honest) (subst (IsTrueWorld lists) (sym c.self.view_is) is)
