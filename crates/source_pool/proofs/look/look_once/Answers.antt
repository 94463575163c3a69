use Rattle.std.proofs.Common.{◌≡◌, Option, Some, inl, inr, subst}
use Rattle.std.specs.Option.{IfSome}
use Rattle.ranked_list.specs.declared.need.Need.{Need}
use Rattle.source_state.specs.declared.look.Look.{Look}
use Rattle.source_state.specs.State.{IsSound}
use Rattle.source_pool.specs.declared.hold.Hold.{Hold}
use Rattle.source_pool.specs.Seen.{state_seen}
use Rattle.source_pool.specs.Remembering.{IsHeld, Remembers}
use Rattle.source_pool.specs.Looks.{rested, IsGlance}
use Rattle.source_pool.proofs.TurnLaws.{glanced, glance_answers, glance_waits, glance_shown, glance_knows, glance_within}
use Rattle.source_pool.proofs.look.look_once.Goals as goal

-- an answer that is found is one that what is remembered gives
found_there : (n : Need) (before : Hold) (found : Option Look) (answer : Look) → IsSound (state_seen before.pass.1) → Remembers before.pass.1.seen before.remembered
    → found ≡ Some answer → IfSome found (IsHeld before.remembered n) → IsGlance n before (rested before) answer
found_there n before found answer sound remembers is held = glanced n before answer sound remembers (subst (λ o. IfSome o (IsHeld before.remembered n)) is held)

pub returns-in-Some-clause-look : goal.returns-in-Some-clause-look
returns-in-Some-clause-look g c = inl (found_there c.args.need c.args.hold.now c.answer.result c.in-Some.answer c.requires.sound c.requires.remembers c.in-Some.is c.answer.ensures.held)

pub returns-in-Some-clause-answer : goal.returns-in-Some-clause-answer
returns-in-Some-clause-answer g c = glance_answers c.args.need c.args.hold.now c.in-Some.answer
    (found_there c.args.need c.args.hold.now c.answer.result c.in-Some.answer c.requires.sound c.requires.remembers c.in-Some.is c.answer.ensures.held)

pub returns-in-Some-clause-waits : goal.returns-in-Some-clause-waits
returns-in-Some-clause-waits g c = glance_waits c.args.need c.args.hold.now c.in-Some.answer
    (found_there c.args.need c.args.hold.now c.answer.result c.in-Some.answer c.requires.sound c.requires.remembers c.in-Some.is c.answer.ensures.held)

pub returns-in-Some-clause-shown : goal.returns-in-Some-clause-shown
returns-in-Some-clause-shown g c = glance_shown c.args.need c.args.hold.now c.in-Some.answer
    (found_there c.args.need c.args.hold.now c.answer.result c.in-Some.answer c.requires.sound c.requires.remembers c.in-Some.is c.answer.ensures.held)

pub returns-in-Some-clause-knows : goal.returns-in-Some-clause-knows
returns-in-Some-clause-knows g c = glance_knows c.args.hold.now

pub returns-in-Some-clause-within : goal.returns-in-Some-clause-within
returns-in-Some-clause-within g c = glance_within c.args.hold.now

pub returns-clause-look : goal.returns-clause-look
returns-clause-look g c = inr c.look_in_turn.ensures.look
