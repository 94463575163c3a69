use Rattle.std.proofs.Common.{sym, ap, ◌∙◌}
use Rattle.source_state.specs.Log.{first_of, fault_in}
use Rattle.source_state.specs.State.{State}
use Rattle.source_state.specs.Events.{after}
use Rattle.source_state.proofs.LogLaws.{settled_faults}
use Rattle.source_state.proofs.state.SourceState.apply.Goals as goal

pub returns-in-Grade-clause-applied : goal.returns-in-Grade-clause-applied
returns-in-Grade-clause-applied c = ap (λ (s : State). fault_in s.log) c.add_grade.ensures.state ∙ ap first_of (settled_faults c.args.self.now.log _ _)

pub returns-in-Miss-clause-applied : goal.returns-in-Miss-clause-applied
returns-in-Miss-clause-applied c = ap (λ (s : State). fault_in s.log) c.add_settling.ensures.state ∙ ap first_of (settled_faults c.args.self.now.log _ _)

pub returns-in-Want-clause-state : goal.returns-in-Want-clause-state
returns-in-Want-clause-state c = c.add_want.ensures.state ∙ ap (after c.args.self.now) (sym c.in-Want.is)

pub returns-in-Want-clause-grows : goal.returns-in-Want-clause-grows
returns-in-Want-clause-grows c = c.add_want.ensures.grows

pub returns-in-Want-clause-sound : goal.returns-in-Want-clause-sound
returns-in-Want-clause-sound c = c.add_want.ensures.sound

pub returns-in-Ask-clause-state : goal.returns-in-Ask-clause-state
returns-in-Ask-clause-state c = c.add_ask.ensures.state ∙ ap (after c.args.self.now) (sym c.in-Ask.is)

pub returns-in-Ask-clause-grows : goal.returns-in-Ask-clause-grows
returns-in-Ask-clause-grows c = c.add_ask.ensures.grows

pub returns-in-Ask-clause-sound : goal.returns-in-Ask-clause-sound
returns-in-Ask-clause-sound c = c.add_ask.ensures.sound

pub returns-in-Page-clause-state : goal.returns-in-Page-clause-state
returns-in-Page-clause-state c = c.add_page.ensures.state ∙ ap (after c.args.self.now) (sym c.in-Page.is)

pub returns-in-Page-clause-grows : goal.returns-in-Page-clause-grows
returns-in-Page-clause-grows c = c.add_page.ensures.grows

pub returns-in-Page-clause-sound : goal.returns-in-Page-clause-sound
returns-in-Page-clause-sound c = c.add_page.ensures.sound

pub returns-in-Grade-clause-state : goal.returns-in-Grade-clause-state
returns-in-Grade-clause-state c = c.add_grade.ensures.state ∙ ap (after c.args.self.now) (sym c.in-Grade.is)

pub returns-in-Grade-clause-grows : goal.returns-in-Grade-clause-grows
returns-in-Grade-clause-grows c = c.add_grade.ensures.grows

pub returns-in-Grade-clause-sound : goal.returns-in-Grade-clause-sound
returns-in-Grade-clause-sound c = c.add_grade.ensures.sound

pub returns-in-Miss-clause-state : goal.returns-in-Miss-clause-state
returns-in-Miss-clause-state c = c.add_settling.ensures.state ∙ ap (after c.args.self.now) (sym c.in-Miss.is)

pub returns-in-Miss-clause-grows : goal.returns-in-Miss-clause-grows
returns-in-Miss-clause-grows c = c.add_settling.ensures.grows

pub returns-in-Miss-clause-sound : goal.returns-in-Miss-clause-sound
returns-in-Miss-clause-sound c = c.add_settling.ensures.sound

pub returns-in-Fail-clause-state : goal.returns-in-Fail-clause-state
returns-in-Fail-clause-state c = c.add_fail.ensures.state ∙ ap (after c.args.self.now) (sym c.in-Fail.is)

pub returns-in-Fail-clause-grows : goal.returns-in-Fail-clause-grows
returns-in-Fail-clause-grows c = c.add_fail.ensures.grows

pub returns-in-Fail-clause-sound : goal.returns-in-Fail-clause-sound
returns-in-Fail-clause-sound c = c.add_fail.ensures.sound

pub returns-in-Move-clause-state : goal.returns-in-Move-clause-state
returns-in-Move-clause-state c = c.add_move.ensures.state ∙ ap (after c.args.self.now) (sym c.in-Move.is)

pub returns-in-Move-clause-grows : goal.returns-in-Move-clause-grows
returns-in-Move-clause-grows c = c.add_move.ensures.grows

pub returns-in-Move-clause-sound : goal.returns-in-Move-clause-sound
returns-in-Move-clause-sound c = c.add_move.ensures.sound
