use Rattle.std.proofs.Common.{Some, None, Err, refl, ap, ◌∙◌}
use Rattle.std.proofs.KnownBytes.{Keeps-refl}
use Rattle.command_line.specs.Commands.{command_of}
use Rattle.command_line.specs.declared.command.Command.TheVariants.{One, Judge, Compare, Make, Run, Bulk, Node, Serve}
use Rattle.command_line.specs.Calls.{Input, Outside, call_at}
use Rattle.command_line.specs.Shelves.{Shelf}
use Rattle.command_line.specs.declared.status.Status.TheVariants.{Memory}
use Rattle.command_line.proofs.Ending.{outside_at, shelf_at}
use Rattle.port_calls.specs.Ports.{Ports, ports_of}
use Rattle.topk_top.proofs.Ending.{ends_as, ends_refused, ends_without_memory}
use Rattle.topk_top.proofs.call.top.Goals as goal

pub returns-in-Ok-One-clause-ends : goal.returns-in-Ok-One-clause-ends
returns-in-Ok-One-clause-ends g c =
    let ports : Ports = ports_of g.P.Port.links g.P.Port.closed g.P.Port.faults g.P.Port.calls (c.args.port.now, c.args.port.now) in
    let shelf : Shelf = shelf_at (g.H.Shelf.texts c.args.shelf.now) (g.H.Shelf.lists c.args.shelf.now) (g.H.Shelf.versions c.args.shelf.now) (g.H.Shelf.at c.args.shelf.now) in
    ends_as (Some One) (call_at c.args.words.now (outside_at (g.R.Intake.left c.args.input.now) (g.R.Intake.faults c.args.input.now) (g.K.Sink.held c.args.out.now) (g.K.Sink.faults c.args.out.now) shelf) (outside_at (g.R.Intake.left c.one.new.input) (g.R.Intake.faults c.one.new.input) (g.K.Sink.held c.one.new.out) (g.K.Sink.faults c.one.new.out) shelf)) ports c.one.result
    (c.in-Ok-One.ensures.read ∙ ap Some c.in-Ok-One.field-0-is) (refl, refl, c.one.ensures.ends c.args.words.now shelf)

pub returns-in-Ok-Judge-clause-ends : goal.returns-in-Ok-Judge-clause-ends
returns-in-Ok-Judge-clause-ends g c =
    let ports : Ports = ports_of g.P.Port.links g.P.Port.closed g.P.Port.faults g.P.Port.calls (c.args.port.now, c.args.port.now) in
    let shelf : Shelf = shelf_at (g.H.Shelf.texts c.args.shelf.now) (g.H.Shelf.lists c.args.shelf.now) (g.H.Shelf.versions c.args.shelf.now) (g.H.Shelf.at c.args.shelf.now) in
    ends_as (Some Judge) (call_at c.args.words.now (outside_at (g.R.Intake.left c.args.input.now) (g.R.Intake.faults c.args.input.now) (g.K.Sink.held c.args.out.now) (g.K.Sink.faults c.args.out.now) shelf) (outside_at (g.R.Intake.left c.judge.new.input) (g.R.Intake.faults c.judge.new.input) (g.K.Sink.held c.judge.new.out) (g.K.Sink.faults c.judge.new.out) shelf)) ports c.judge.result
    (c.in-Ok-Judge.ensures.read ∙ ap Some c.in-Ok-Judge.field-0-is) (refl, refl, c.judge.ensures.ends c.args.words.now shelf)

pub returns-in-Ok-Compare-clause-ends : goal.returns-in-Ok-Compare-clause-ends
returns-in-Ok-Compare-clause-ends g c =
    let ports : Ports = ports_of g.P.Port.links g.P.Port.closed g.P.Port.faults g.P.Port.calls (c.args.port.now, c.args.port.now) in
    let shelf : Shelf = shelf_at (g.H.Shelf.texts c.args.shelf.now) (g.H.Shelf.lists c.args.shelf.now) (g.H.Shelf.versions c.args.shelf.now) (g.H.Shelf.at c.args.shelf.now) in
    ends_as (Some Compare) (call_at c.args.words.now (outside_at (g.R.Intake.left c.args.input.now) (g.R.Intake.faults c.args.input.now) (g.K.Sink.held c.args.out.now) (g.K.Sink.faults c.args.out.now) shelf) (outside_at (g.R.Intake.left c.compare.new.input) (g.R.Intake.faults c.compare.new.input) (g.K.Sink.held c.compare.new.out) (g.K.Sink.faults c.compare.new.out) shelf)) ports c.compare.result
    (c.in-Ok-Compare.ensures.read ∙ ap Some c.in-Ok-Compare.field-0-is) (refl, refl, c.compare.ensures.ends c.args.words.now shelf)

pub returns-in-Ok-Make-clause-ends : goal.returns-in-Ok-Make-clause-ends
returns-in-Ok-Make-clause-ends g c =
    let ports : Ports = ports_of g.P.Port.links g.P.Port.closed g.P.Port.faults g.P.Port.calls (c.args.port.now, c.args.port.now) in
    let shelf : Shelf = shelf_at (g.H.Shelf.texts c.args.shelf.now) (g.H.Shelf.lists c.args.shelf.now) (g.H.Shelf.versions c.args.shelf.now) (g.H.Shelf.at c.args.shelf.now) in
    let input : Input = record { left = g.R.Intake.left c.args.input.now; faults = g.R.Intake.faults c.args.input.now } in
    ends_as (Some (Make c.in-Ok-Make.options)) (call_at c.args.words.now (outside_at (g.R.Intake.left c.args.input.now) (g.R.Intake.faults c.args.input.now) (g.K.Sink.held c.args.out.now) (g.K.Sink.faults c.args.out.now) shelf) (outside_at (g.R.Intake.left c.args.input.now) (g.R.Intake.faults c.args.input.now) (g.K.Sink.held c.make.new.out) (g.K.Sink.faults c.make.new.out) shelf)) ports c.make.result
    (c.in-Ok-Make.ensures.read ∙ ap Some c.in-Ok-Make.field-0-is) (refl, refl, c.make.ensures.ends c.args.words.now input shelf)

pub returns-in-Ok-Bulk-clause-ends : goal.returns-in-Ok-Bulk-clause-ends
returns-in-Ok-Bulk-clause-ends g c =
    let ports : Ports = ports_of g.P.Port.links g.P.Port.closed g.P.Port.faults g.P.Port.calls (c.args.port.now, c.args.port.now) in
    let shelf : Shelf = shelf_at (g.H.Shelf.texts c.args.shelf.now) (g.H.Shelf.lists c.args.shelf.now) (g.H.Shelf.versions c.args.shelf.now) (g.H.Shelf.at c.args.shelf.now) in
    let input : Input = record { left = g.R.Intake.left c.args.input.now; faults = g.R.Intake.faults c.args.input.now } in
    ends_as (Some (Bulk c.in-Ok-Bulk.options)) (call_at c.args.words.now (outside_at (g.R.Intake.left c.args.input.now) (g.R.Intake.faults c.args.input.now) (g.K.Sink.held c.args.out.now) (g.K.Sink.faults c.args.out.now) shelf) (outside_at (g.R.Intake.left c.args.input.now) (g.R.Intake.faults c.args.input.now) (g.K.Sink.held c.bulk.new.out) (g.K.Sink.faults c.bulk.new.out) shelf)) ports c.bulk.result
    (c.in-Ok-Bulk.ensures.read ∙ ap Some c.in-Ok-Bulk.field-0-is) (refl, refl, c.bulk.ensures.ends c.args.words.now input shelf)

pub returns-in-Ok-Run-clause-ends : goal.returns-in-Ok-Run-clause-ends
returns-in-Ok-Run-clause-ends g c =
    let ports : Ports = ports_of g.P.Port.links g.P.Port.closed g.P.Port.faults g.P.Port.calls (c.args.port.now, c.args.port.now) in
    let shelf : Shelf = shelf_at (g.H.Shelf.texts c.args.shelf.now) (g.H.Shelf.lists c.args.shelf.now) (g.H.Shelf.versions c.args.shelf.now) (g.H.Shelf.at c.args.shelf.now) in
    let after : Shelf = shelf_at (g.H.Shelf.texts c.run.new.shelf) (g.H.Shelf.lists c.run.new.shelf) (g.H.Shelf.versions c.run.new.shelf) (g.H.Shelf.at c.run.new.shelf) in
    ends_as (Some (Run c.in-Ok-Run.options)) (call_at c.args.words.now (outside_at (g.R.Intake.left c.args.input.now) (g.R.Intake.faults c.args.input.now) (g.K.Sink.held c.args.out.now) (g.K.Sink.faults c.args.out.now) shelf) (outside_at (g.R.Intake.left c.run.new.input) (g.R.Intake.faults c.run.new.input) (g.K.Sink.held c.run.new.out) (g.K.Sink.faults c.run.new.out) after)) ports c.run.result
    (c.in-Ok-Run.ensures.read ∙ ap Some c.in-Ok-Run.field-0-is) (refl, c.run.ensures.ends c.args.words.now)

pub returns-in-Err-BadWords-clause-ends : goal.returns-in-Err-BadWords-clause-ends
returns-in-Err-BadWords-clause-ends g c =
    let ports : Ports = ports_of g.P.Port.links g.P.Port.closed g.P.Port.faults g.P.Port.calls (c.args.port.now, c.args.port.now) in
    let shelf : Shelf = shelf_at (g.H.Shelf.texts c.args.shelf.now) (g.H.Shelf.lists c.args.shelf.now) (g.H.Shelf.versions c.args.shelf.now) (g.H.Shelf.at c.args.shelf.now) in
    let call = (call_at c.args.words.now (outside_at (g.R.Intake.left c.args.input.now) (g.R.Intake.faults c.args.input.now) (g.K.Sink.held c.args.out.now) (g.K.Sink.faults c.args.out.now) shelf) (outside_at (g.R.Intake.left c.args.input.now) (g.R.Intake.faults c.args.input.now) (g.K.Sink.held c.say.new.out) (g.K.Sink.faults c.say.new.out) shelf)) in
    ends_as None call ports c.say.result (c.in-Err-BadWords.ensures.refused (ap Err c.in-Err-BadWords.field-0-is))
    (refl, refl, ends_refused call c.say.result (record { left = Keeps-refl (g.R.Intake.left c.args.input.now); faults = refl }) c.say.ensures.says)

pub returns-in-Err-Memory-clause-ends : goal.returns-in-Err-Memory-clause-ends
returns-in-Err-Memory-clause-ends g c =
    let ports : Ports = ports_of g.P.Port.links g.P.Port.closed g.P.Port.faults g.P.Port.calls (c.args.port.now, c.args.port.now) in
    let shelf : Shelf = shelf_at (g.H.Shelf.texts c.args.shelf.now) (g.H.Shelf.lists c.args.shelf.now) (g.H.Shelf.versions c.args.shelf.now) (g.H.Shelf.at c.args.shelf.now) in
    let outside : Outside = outside_at (g.R.Intake.left c.args.input.now) (g.R.Intake.faults c.args.input.now) (g.K.Sink.held c.args.out.now) (g.K.Sink.faults c.args.out.now) shelf in
    ends_as (command_of c.args.words.now) (call_at c.args.words.now outside outside) ports Memory refl
    (ends_without_memory (command_of c.args.words.now) (call_at c.args.words.now outside outside) ports refl refl
    (record { left = Keeps-refl (g.R.Intake.left c.args.input.now); faults = refl }) (record { held = Keeps-refl (g.K.Sink.held c.args.out.now); faults = refl }))

pub returns-in-Ok-Node-clause-ends : goal.returns-in-Ok-Node-clause-ends
returns-in-Ok-Node-clause-ends g c =
    let ports : Ports = ports_of g.P.Port.links g.P.Port.closed g.P.Port.faults g.P.Port.calls (c.args.port.now, c.node.new.port) in
    let shelf : Shelf = shelf_at (g.H.Shelf.texts c.args.shelf.now) (g.H.Shelf.lists c.args.shelf.now) (g.H.Shelf.versions c.args.shelf.now) (g.H.Shelf.at c.args.shelf.now) in
    let after : Shelf = shelf_at (g.H.Shelf.texts c.node.new.shelf) (g.H.Shelf.lists c.node.new.shelf) (g.H.Shelf.versions c.node.new.shelf) (g.H.Shelf.at c.node.new.shelf) in
    let input : Input = record { left = g.R.Intake.left c.args.input.now; faults = g.R.Intake.faults c.args.input.now } in
    ends_as (Some (Node c.in-Ok-Node.options)) (call_at c.args.words.now (outside_at (g.R.Intake.left c.args.input.now) (g.R.Intake.faults c.args.input.now) (g.K.Sink.held c.args.out.now) (g.K.Sink.faults c.args.out.now) shelf) (outside_at (g.R.Intake.left c.args.input.now) (g.R.Intake.faults c.args.input.now) (g.K.Sink.held c.node.new.out) (g.K.Sink.faults c.node.new.out) after)) ports c.node.result
    (c.in-Ok-Node.ensures.read ∙ ap Some c.in-Ok-Node.field-0-is)
    (record { left = Keeps-refl (g.R.Intake.left c.args.input.now); faults = refl }, c.node.ensures.ends c.args.words.now input)

pub returns-in-Ok-Serve-clause-ends : goal.returns-in-Ok-Serve-clause-ends
returns-in-Ok-Serve-clause-ends g c =
    let ports : Ports = ports_of g.P.Port.links g.P.Port.closed g.P.Port.faults g.P.Port.calls (c.args.port.now, c.serve.new.port) in
    let shelf : Shelf = shelf_at (g.H.Shelf.texts c.args.shelf.now) (g.H.Shelf.lists c.args.shelf.now) (g.H.Shelf.versions c.args.shelf.now) (g.H.Shelf.at c.args.shelf.now) in
    let after : Shelf = shelf_at (g.H.Shelf.texts c.serve.new.shelf) (g.H.Shelf.lists c.serve.new.shelf) (g.H.Shelf.versions c.serve.new.shelf) (g.H.Shelf.at c.serve.new.shelf) in
    let input : Input = record { left = g.R.Intake.left c.args.input.now; faults = g.R.Intake.faults c.args.input.now } in
    ends_as (Some (Serve c.in-Ok-Serve.options)) (call_at c.args.words.now (outside_at (g.R.Intake.left c.args.input.now) (g.R.Intake.faults c.args.input.now) (g.K.Sink.held c.args.out.now) (g.K.Sink.faults c.args.out.now) shelf) (outside_at (g.R.Intake.left c.args.input.now) (g.R.Intake.faults c.args.input.now) (g.K.Sink.held c.serve.new.out) (g.K.Sink.faults c.serve.new.out) after)) ports c.serve.result
    (c.in-Ok-Serve.ensures.read ∙ ap Some c.in-Ok-Serve.field-0-is)
    (record { left = Keeps-refl (g.R.Intake.left c.args.input.now); faults = refl }, c.serve.ensures.ends c.args.words.now input)
