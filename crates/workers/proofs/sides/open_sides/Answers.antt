use Rattle.workers.proofs.SideLaws.{all_fresh}
use Rattle.workers.proofs.sides.open_sides.Goals as goal

pub open-requires-clause-fresh : goal.open-requires-clause-fresh
open-requires-clause-fresh g c κs within =
    all_fresh g.S.Source.list g.S.Source.counts g.S.Source.calls g.S.Source.at_hand g.S.Source.states c.args.pool.now c.args.settings c.args.slots.now.items c.requires.settings
    ((g.met.S.Source g.world.𝓛 g.world.𝓜 g.world.𝓡 ((λ s x. x), (λ x. x), (λ x. x), λ x. x)).distinct) c.requires.feeders c.requires.fresh

pub returns-in_default-clause-fresh : goal.returns-in_default-clause-fresh
returns-in_default-clause-fresh g c =
    all_fresh g.S.Source.list g.S.Source.counts g.S.Source.calls g.S.Source.at_hand g.S.Source.states c.args.pool.now c.args.settings c.args.slots.now.items c.requires.settings
    ((g.met.S.Source g.world.𝓛 g.world.𝓜 g.world.𝓡 ((λ s x. x), (λ x. x), (λ x. x), λ x. x)).distinct) c.requires.feeders c.requires.fresh

pub returns-in_default-open-clause-fresh : goal.returns-in_default-open-clause-fresh
returns-in_default-open-clause-fresh g c =
    all_fresh g.S.Source.list g.S.Source.counts g.S.Source.calls g.S.Source.at_hand g.S.Source.states c.args.pool.now c.args.settings c.args.slots.now.items c.requires.settings
    ((g.met.S.Source g.world.𝓛 g.world.𝓜 g.world.𝓡 ((λ s x. x), (λ x. x), (λ x. x), λ x. x)).distinct) c.requires.feeders c.requires.fresh

pub returns-clause-fresh : goal.returns-clause-fresh
returns-clause-fresh g c =
    all_fresh g.S.Source.list g.S.Source.counts g.S.Source.calls g.S.Source.at_hand g.S.Source.states c.args.pool.now c.args.settings c.args.slots.now.items c.requires.settings
    ((g.met.S.Source g.world.𝓛 g.world.𝓜 g.world.𝓡 ((λ s x. x), (λ x. x), (λ x. x), λ x. x)).distinct) c.requires.feeders c.requires.fresh
