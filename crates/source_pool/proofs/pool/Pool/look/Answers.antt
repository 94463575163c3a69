use Rattle.std.proofs.Common.{◌≡◌}
use Rattle.source_state.specs.State.{IsSound}
use Rattle.source_pool.specs.Seen.{state_seen}
use Rattle.source_pool.specs.Remembering.{Remembers}
use Rattle.source_pool.specs.Looks.{Answers, Waits, shown_by, KnowsOn, IsLook, IsWithin}
use Rattle.source_pool.proofs.PassLaws.{pass_given, others_given, changed_there, kept_there}
use Rattle.source_pool.proofs.pool.Pool.look.Goals as goal

pub returns-clause-own : goal.returns-clause-own
returns-clause-own g c = pass_given c.args.self.now c.self.inside.locks.items c.args.pass.now c.pass.inside.holds.items c.args.source _ _ c.self.view_is c.pass.view_is
    c.requires.own c.requires.source c.index-lock.ensures c.look_once-answer.ensures.own c.look_once-answer.ensures.sound c.look_once-answer.ensures.remembers

pub returns-clause-others : goal.returns-clause-others
returns-clause-others g c = others_given c.args.pass.now c.pass.inside.holds.items c.args.source _ c.pass.view_is

pub returns-clause-look : goal.returns-clause-look
returns-clause-look g c = changed_there (λ before after. IsLook c.args.need before after c.look_once-answer.result) c.args.self.now c.args.pass.now c.pass.inside.holds.items c.args.source _ _ c.pass.view_is
    c.requires.own c.requires.source c.index_mut.ensures.value c.look_once-answer.ensures.look

pub returns-clause-answer : goal.returns-clause-answer
returns-clause-answer g c = changed_there (λ before after. Answers c.args.need before after c.look_once-answer.result) c.args.self.now c.args.pass.now c.pass.inside.holds.items c.args.source _ _ c.pass.view_is
    c.requires.own c.requires.source c.index_mut.ensures.value c.look_once-answer.ensures.answer

pub returns-clause-waits : goal.returns-clause-waits
returns-clause-waits g c = changed_there (λ before after. Waits c.args.need before after c.look_once-answer.result) c.args.self.now c.args.pass.now c.pass.inside.holds.items c.args.source _ _ c.pass.view_is
    c.requires.own c.requires.source c.index_mut.ensures.value c.look_once-answer.ensures.waits

pub returns-clause-shown : goal.returns-clause-shown
returns-clause-shown g c = changed_there (λ before after. after.shown ≡ shown_by c.look_once-answer.result before.shown) c.args.self.now c.args.pass.now c.pass.inside.holds.items c.args.source _ _ c.pass.view_is
    c.requires.own c.requires.source c.index_mut.ensures.value c.look_once-answer.ensures.shown

pub returns-clause-knows : goal.returns-clause-knows
returns-clause-knows g c = changed_there (λ before after. KnowsOn before.pass.1 after.pass.1) c.args.self.now c.args.pass.now c.pass.inside.holds.items c.args.source _ _ c.pass.view_is
    c.requires.own c.requires.source c.index_mut.ensures.value c.look_once-answer.ensures.knows

pub returns-clause-within : goal.returns-clause-within
returns-clause-within g c = changed_there (λ before after. IsWithin before → IsWithin after) c.args.self.now c.args.pass.now c.pass.inside.holds.items c.args.source _ _ c.pass.view_is
    c.requires.own c.requires.source c.index_mut.ensures.value c.look_once-answer.ensures.within

pub look_once-answer-requires-clause-sound : goal.look_once-answer-requires-clause-sound
look_once-answer-requires-clause-sound g c = kept_there (λ hold. IsSound (state_seen hold.pass.1)) c.args.self.now c.args.pass.now c.pass.inside.holds.items c.args.source _ c.pass.view_is
    c.requires.own c.requires.source c.index_mut.ensures.value (c.requires.own.sound c.args.source c.requires.source)

pub look_once-answer-requires-clause-remembers : goal.look_once-answer-requires-clause-remembers
look_once-answer-requires-clause-remembers g c = kept_there (λ hold. Remembers hold.pass.1.seen hold.remembered) c.args.self.now c.args.pass.now c.pass.inside.holds.items
    c.args.source _ c.pass.view_is c.requires.own c.requires.source c.index_mut.ensures.value (c.requires.own.remembers c.args.source c.requires.source)
