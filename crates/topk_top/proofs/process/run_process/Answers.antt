use Rattle.std.proofs.Common.{[], refl}
use Rattle.std.proofs.KnownBytes.{Keeps-refl}
use Rattle.command_line.specs.Commands.{command_of}
use Rattle.command_line.specs.Calls.{Call, Outside, call_at}
use Rattle.command_line.specs.Shelves.{Shelf}
use Rattle.command_line.specs.declared.status.Status.TheVariants.{Memory}
use Rattle.command_line.proofs.Ending.{outside_at, shelf_at}
use Rattle.port_calls.specs.Ports.{Ports, ports_of}
use Rattle.topk_top.proofs.Ending.{ends_as, ends_without_memory}
use Rattle.topk_top.proofs.process.run_process.Goals as goal

-- nothing was read or written, so the call ends as one without words does
pub returns-in-Err-Memory : goal.returns-in-Err-Memory
returns-in-Err-Memory g c =
    let left = g.R.Intake.left c.args.input.now in
    let held = g.K.Sink.held c.args.out.now in
    let shelf : Shelf = shelf_at (g.H.Shelf.texts c.args.shelf.now) (g.H.Shelf.lists c.args.shelf.now) (g.H.Shelf.versions c.args.shelf.now) (g.H.Shelf.at c.args.shelf.now) in
    let outside : Outside = outside_at left (g.R.Intake.faults c.args.input.now) held (g.K.Sink.faults c.args.out.now) shelf in
    let ports : Ports = ports_of g.P.Port.links g.P.Port.closed g.P.Port.faults g.P.Port.calls (c.args.port.now, c.args.port.now) in
    let call : Call = call_at [] outside outside in
    let ends = ends_as (command_of []) call ports Memory refl (ends_without_memory (command_of []) call ports refl refl
    (record { left = Keeps-refl left; faults = refl }) (record { held = Keeps-refl held; faults = refl })) in
    ([], (Memory, ends, c.code.ensures))
