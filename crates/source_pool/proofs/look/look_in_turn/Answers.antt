use Rattle.source_pool.proofs.SeenLaws.{sound_looked}
use Rattle.source_pool.proofs.TurnLaws.{turned_by, seen_given, in_reach, remembers_turned, answers, waits, knows_on, within}
use Rattle.source_pool.proofs.look.look_in_turn.Goals as goal

pub returns-clause-look : goal.returns-clause-look
returns-clause-look g c =
    let t = turned_by c.args.need c.args.hold.now c.args.lock.now c.take-state.result c.look_at-answer.new.state c.take-state.new.pass c.give.new.pass c.look_at-answer.new.waiting
    c.shown_by-hold.result c.keep.new.self c.look_at-answer.result c.requires.unheld c.keep.ensures.rows c.requires.need c.take-state.ensures.value c.count.ensures.sound c.look_at-answer.ensures.sound c.look_at-answer.ensures.looks c.look_at-answer.ensures.grows
    c.look_at-answer.ensures.keeps c.take-state.ensures.pass c.give.ensures c.shown_by-hold.ensures in
    t.turn

pub returns-clause-sound : goal.returns-clause-sound
returns-clause-sound g c =
    let t = turned_by c.args.need c.args.hold.now c.args.lock.now c.take-state.result c.look_at-answer.new.state c.take-state.new.pass c.give.new.pass c.look_at-answer.new.waiting
    c.shown_by-hold.result c.keep.new.self c.look_at-answer.result c.requires.unheld c.keep.ensures.rows c.requires.need c.take-state.ensures.value c.count.ensures.sound c.look_at-answer.ensures.sound c.look_at-answer.ensures.looks c.look_at-answer.ensures.grows
    c.look_at-answer.ensures.keeps c.take-state.ensures.pass c.give.ensures c.shown_by-hold.ensures in
    sound_looked c.args.need c.args.hold.now _ c.look_at-answer.result t

pub returns-clause-remembers : goal.returns-clause-remembers
returns-clause-remembers g c =
    let t = turned_by c.args.need c.args.hold.now c.args.lock.now c.take-state.result c.look_at-answer.new.state c.take-state.new.pass c.give.new.pass c.look_at-answer.new.waiting
    c.shown_by-hold.result c.keep.new.self c.look_at-answer.result c.requires.unheld c.keep.ensures.rows c.requires.need c.take-state.ensures.value c.count.ensures.sound c.look_at-answer.ensures.sound c.look_at-answer.ensures.looks c.look_at-answer.ensures.grows
    c.look_at-answer.ensures.keeps c.take-state.ensures.pass c.give.ensures c.shown_by-hold.ensures in
    remembers_turned c.args.need c.args.hold.now _ c.look_at-answer.result c.look_at-answer.new.state.log t
    (seen_given c.args.lock.now c.args.hold.now.pass.1 c.take-state.result c.look_at-answer.new.state c.take-state.new.pass c.give.new.pass c.take-state.ensures.pass c.give.ensures)
    c.requires.remembers c.keep.ensures.grades

pub returns-clause-answer : goal.returns-clause-answer
returns-clause-answer g c =
    let t = turned_by c.args.need c.args.hold.now c.args.lock.now c.take-state.result c.look_at-answer.new.state c.take-state.new.pass c.give.new.pass c.look_at-answer.new.waiting
    c.shown_by-hold.result c.keep.new.self c.look_at-answer.result c.requires.unheld c.keep.ensures.rows c.requires.need c.take-state.ensures.value c.count.ensures.sound c.look_at-answer.ensures.sound c.look_at-answer.ensures.looks c.look_at-answer.ensures.grows
    c.look_at-answer.ensures.keeps c.take-state.ensures.pass c.give.ensures c.shown_by-hold.ensures in
    answers c.args.need c.args.hold.now _ c.look_at-answer.result t

pub returns-clause-waits : goal.returns-clause-waits
returns-clause-waits g c =
    let t = turned_by c.args.need c.args.hold.now c.args.lock.now c.take-state.result c.look_at-answer.new.state c.take-state.new.pass c.give.new.pass c.look_at-answer.new.waiting
    c.shown_by-hold.result c.keep.new.self c.look_at-answer.result c.requires.unheld c.keep.ensures.rows c.requires.need c.take-state.ensures.value c.count.ensures.sound c.look_at-answer.ensures.sound c.look_at-answer.ensures.looks c.look_at-answer.ensures.grows
    c.look_at-answer.ensures.keeps c.take-state.ensures.pass c.give.ensures c.shown_by-hold.ensures in
    waits c.args.need c.args.hold.now _ c.look_at-answer.result t

pub returns-clause-shown : goal.returns-clause-shown
returns-clause-shown g c = c.shown_by-hold.ensures

pub returns-clause-knows : goal.returns-clause-knows
returns-clause-knows g c =
    let t = turned_by c.args.need c.args.hold.now c.args.lock.now c.take-state.result c.look_at-answer.new.state c.take-state.new.pass c.give.new.pass c.look_at-answer.new.waiting
    c.shown_by-hold.result c.keep.new.self c.look_at-answer.result c.requires.unheld c.keep.ensures.rows c.requires.need c.take-state.ensures.value c.count.ensures.sound c.look_at-answer.ensures.sound c.look_at-answer.ensures.looks c.look_at-answer.ensures.grows
    c.look_at-answer.ensures.keeps c.take-state.ensures.pass c.give.ensures c.shown_by-hold.ensures in
    knows_on c.args.need c.args.hold.now _ c.look_at-answer.result t

pub returns-clause-within : goal.returns-clause-within
returns-clause-within g c =
    let t = turned_by c.args.need c.args.hold.now c.args.lock.now c.take-state.result c.look_at-answer.new.state c.take-state.new.pass c.give.new.pass c.look_at-answer.new.waiting
    c.shown_by-hold.result c.keep.new.self c.look_at-answer.result c.requires.unheld c.keep.ensures.rows c.requires.need c.take-state.ensures.value c.count.ensures.sound c.look_at-answer.ensures.sound c.look_at-answer.ensures.looks c.look_at-answer.ensures.grows
    c.look_at-answer.ensures.keeps c.take-state.ensures.pass c.give.ensures c.shown_by-hold.ensures in
    within c.args.need c.args.hold.now _ c.look_at-answer.result t

pub keep-requires : goal.keep-requires
keep-requires g c = record { reach = in_reach c.args.need c.args.hold.now.pass.1 c.take-state.result c.requires.need c.take-state.ensures.value.name c.count.ensures.sound }
