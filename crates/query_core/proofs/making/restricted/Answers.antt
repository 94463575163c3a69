use Rattle.std.proofs.Common.{length, sym, ap, ◌∙◌}
use Rattle.monotone_fn.specs.Shape.{list_count}
use Rattle.query_text.specs.declared.algorithm.Algorithm.TheVariants.{Taz}
use Rattle.query_core.specs.declared.machine.Machine.TheVariants as machines
use Rattle.query_core.specs.Methods.{method_with}
use Rattle.query_core.proofs.ListCount.{lists_counted}
use Rattle.query_core.proofs.Made.{machine_for}
use Rattle.query_core.proofs.making.restricted.Goals as goal

pub make-requires-clause-one_each : goal.make-requires-clause-one_each
make-requires-clause-one_each c =
    ap length c.as_slice.ensures.value ∙ c.requires.ready.sorted ∙ sym (lists_counted c.args.ready.now.query c.requires.ready.lawful)
    ∙ ap list_count (sym c.requires.copied)

pub returns-clause-begun : goal.returns-clause-begun
returns-clause-begun c =
    machine_for c.args.ready.now (machines.Taz c.in_ok-machine.machine) c.args.expr _ _
    (ap (method_with Taz) (c.in_ok-machine.ensures.lists ∙ c.as_slice.ensures.value) ∙ sym (ap (λ a. method_with a c.args.ready.now.sorted.items) c.requires.algorithm))
    c.requires.copied c.room-room.ensures.room c.costs_in_force-costs.ensures c.in_ok-machine.ensures.begun
