use Rattle.std.proofs.Common.{[], subst, ap, ◌∙◌}
use Rattle.query_text.specs.Query.{IsRated}
use Rattle.query_core.specs.declared.machine.Machine.TheVariants as machines
use Rattle.query_core.specs.Methods.{method_with}
use Rattle.query_core.specs.Machines.{algorithm_halting}
use Rattle.query_core.proofs.Halting.{halting_makes, halting_method, rated_fair}
use Rattle.query_core.proofs.Made.{machine_for}
use Rattle.query_core.proofs.making.threshold.Goals as goal

pub make-requires-clause-fair : goal.make-requires-clause-fair
make-requires-clause-fair c = rated_fair c.args.halting (subst IsRated c.requires.algorithm c.requires.ready.lawful.algorithm)

pub returns-clause-begun : goal.returns-clause-begun
returns-clause-begun c =
    machine_for c.args.ready.now (machines.Ta c.in_ok-machine.machine) c.args.expr _ _
    (ap (λ rule. method_with (algorithm_halting rule) []) c.in_ok-machine.ensures.rule
    ∙ halting_method c.args.halting c.args.ready.now.query.algorithm c.args.ready.now.sorted.items c.requires.algorithm)
    c.requires.copied c.room-room.ensures.room c.costs_in_force-costs.ensures c.in_ok-machine.ensures.begun

pub returns-clause-run : goal.returns-clause-run
returns-clause-run c = halting_makes c.in_ok-machine.machine.halting c.in_ok-machine.machine.state c.in_ok-machine.ensures.run
