use Rattle.std.proofs.Common.{sym, subst}
use Rattle.std.specs.List.{slice_set}
use Rattle.source_state.specs.declared.event.Event.TheVariants as event
use Rattle.test_worlds.specs.Worlds.{world_of}
use Rattle.test_worlds.specs.Steps.{MayStep, Steps}
use Rattle.test_worlds.proofs.Turning.{take_event, take_turn}
use Rattle.test_worlds.proofs.world.take.Goals as goal

pub returns-in-Page : goal.returns-in-Page
returns-in-Page c =
    subst (λ step. Steps step (world_of c.args.states.now.items c.args.queries.now.items) (world_of c.come.new.states.items c.args.queries.now.items)) (sym c.in-Page.is)
    (take_event c.args.states.now.items c.come.new.states.items c.args.queries.now.items c.in-Page.source (event.Page c.in-Page.rows) c.come.ensures)

pub returns-in-Grade : goal.returns-in-Grade
returns-in-Grade c =
    subst (λ step. Steps step (world_of c.args.states.now.items c.args.queries.now.items) (world_of c.come-in-Grade.new.states.items c.args.queries.now.items)) (sym c.in-Grade.is)
    (take_event c.args.states.now.items c.come-in-Grade.new.states.items c.args.queries.now.items c.in-Grade.source (event.Grade c.in-Grade.object c.in-Grade.grade) c.come-in-Grade.ensures)

pub returns-in-Miss : goal.returns-in-Miss
returns-in-Miss c =
    subst (λ step. Steps step (world_of c.args.states.now.items c.args.queries.now.items) (world_of c.come-in-Miss.new.states.items c.args.queries.now.items)) (sym c.in-Miss.is)
    (take_event c.args.states.now.items c.come-in-Miss.new.states.items c.args.queries.now.items c.in-Miss.source (event.Miss c.in-Miss.object) c.come-in-Miss.ensures)

pub returns-in-Move : goal.returns-in-Move
returns-in-Move c =
    subst (λ step. Steps step (world_of c.args.states.now.items c.args.queries.now.items) (world_of c.come-in-Move.new.states.items c.args.queries.now.items)) (sym c.in-Move.is)
    (take_event c.args.states.now.items c.come-in-Move.new.states.items c.args.queries.now.items c.in-Move.source (event.Move c.in-Move.object c.in-Move.had c.in-Move.now) c.come-in-Move.ensures)

pub returns-in-Turn : goal.returns-in-Turn
returns-in-Turn c =
    subst (λ step. Steps step (world_of c.args.states.now.items c.args.queries.now.items) (world_of c.turn.new.states.items (slice_set c.args.queries.now.items c.in-Turn.query c.turn.new.query))) (sym c.in-Turn.is)
    (take_turn c.args.states.now.items c.turn.new.states.items c.args.queries.now.items c.in-Turn.query c.index_mut.result.now c.turn.new.query
    (subst (MayStep (world_of c.args.states.now.items c.args.queries.now.items)) c.in-Turn.is c.requires.may) c.index_mut.ensures.value c.turn.ensures)
