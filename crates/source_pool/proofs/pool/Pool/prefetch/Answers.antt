use Rattle.source_pool.specs.Remembering.{Remembers}
use Rattle.source_pool.specs.Looks.{AsksAhead, IsWithin}
use Rattle.source_pool.proofs.PassLaws.{pass_given, others_given, changed_there, kept_there}
use Rattle.source_pool.proofs.pool.Pool.prefetch.Goals as goal

pub returns-clause-own : goal.returns-clause-own
returns-clause-own g c = pass_given c.args.self.now c.self.inside.locks.items c.args.pass.now c.pass.inside.holds.items c.args.source _ _ c.self.view_is c.pass.view_is
    c.requires.own c.requires.source c.index-lock.ensures c.look_ahead-open.ensures.own c.look_ahead-open.ensures.sound c.look_ahead-open.ensures.remembers

pub returns-clause-others : goal.returns-clause-others
returns-clause-others g c = others_given c.args.pass.now c.pass.inside.holds.items c.args.source _ c.pass.view_is

pub returns-clause-asks : goal.returns-clause-asks
returns-clause-asks g c = changed_there (λ before after. AsksAhead c.args.need before after c.look_ahead-open.result) c.args.self.now c.args.pass.now c.pass.inside.holds.items c.args.source _ _ c.pass.view_is
    c.requires.own c.requires.source c.index_mut.ensures.value c.look_ahead-open.ensures.asks

pub returns-clause-within : goal.returns-clause-within
returns-clause-within g c = changed_there (λ before after. IsWithin before → IsWithin after) c.args.self.now c.args.pass.now c.pass.inside.holds.items c.args.source _ _ c.pass.view_is
    c.requires.own c.requires.source c.index_mut.ensures.value c.look_ahead-open.ensures.within

pub look_ahead-open-requires-clause-remembers : goal.look_ahead-open-requires-clause-remembers
look_ahead-open-requires-clause-remembers g c = kept_there (λ hold. Remembers hold.pass.1.seen hold.remembered) c.args.self.now c.args.pass.now c.pass.inside.holds.items
    c.args.source _ c.pass.view_is c.requires.own c.requires.source c.index_mut.ensures.value (c.requires.own.remembers c.args.source c.requires.source)
