use Rattle.std.proofs.Common.{sym, ap}
use Rattle.query_core.specs.declared.machine.Machine.TheVariants as machines
use Rattle.query_core.specs.Methods.{method_with}
use Rattle.query_core.proofs.Made.{machine_for}
use Rattle.query_core.proofs.making.fagins.Goals as goal

pub returns-clause-begun : goal.returns-clause-begun
returns-clause-begun c =
    machine_for c.args.ready.now (machines.Fa c.in_ok-machine.machine) c.args.expr _ _ (sym (ap (λ a. method_with a c.args.ready.now.sorted.items) c.requires.algorithm))
    c.requires.copied c.room-room.ensures.room c.costs_in_force-costs.ensures c.in_ok-machine.ensures.begun
