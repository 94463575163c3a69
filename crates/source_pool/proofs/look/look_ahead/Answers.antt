use Rattle.std.proofs.Common.{◌∙◌, rules}
use Rattle.source_pool.proofs.AheadLaws.{given_ahead, asked_ahead, sound_ahead, remembers_ahead, within_ahead}
use Rattle.source_pool.proofs.look.look_ahead.Goals as goal

pub returns-clause-asks : goal.returns-clause-asks
returns-clause-asks g c =
    asked_ahead c.args.need c.args.hold.now c.args.lock.now c.take-state.result c.look_at-answer.new.state c.take-state.new.pass c.give.new.pass c.look_at-answer.new.waiting
    c.look_at-answer.result _ c.requires.need c.take-state.ensures.value c.count.ensures.sound c.look_at-answer.ensures.sound c.look_at-answer.ensures.looks c.look_at-answer.ensures.grows
    c.look_at-answer.ensures.keeps c.take-state.ensures.pass c.give.ensures (search rules)

pub returns-clause-sound : goal.returns-clause-sound
returns-clause-sound g c =
    sound_ahead c.take-state.result c.look_at-answer.new.state c.args.hold.now.pass.1 c.give.new.pass.1
    (given_ahead c.args.hold.now.pass.1 c.args.lock.now c.take-state.result c.look_at-answer.new.state c.take-state.new.pass c.give.new.pass c.take-state.ensures.pass c.give.ensures)
    (c.look_at-answer.ensures.grows.name ∙ c.take-state.ensures.value.name) c.look_at-answer.ensures.sound

pub returns-clause-remembers : goal.returns-clause-remembers
returns-clause-remembers g c =
    remembers_ahead c.args.need c.args.hold.now c.take-state.result c.give.new.pass c.requires.need c.take-state.ensures.value.name c.count.ensures.sound
    (returns-clause-asks g c).knows c.requires.remembers

pub returns-clause-within : goal.returns-clause-within
returns-clause-within g c = within_ahead c.args.need c.args.hold.now _ _ (returns-clause-asks g c)
