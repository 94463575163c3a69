use Rattle.std.proofs.Common.{false, ◌∙◌, arith}
use Rattle.nra_core.specs.declared.place.Place.{Place}
use Rattle.nra_core.specs.Place.{need_at}
use Rattle.machine_base.proofs.Held.{begun_with}
use Rattle.nra_core.proofs.Feeds.{stands_start}
use Rattle.nra_core.proofs.Runs.{kept_makes}
use Rattle.nra_core.proofs.nra.Nra.make.Goals as goal

pub invariant_of-result : goal.invariant_of-result
invariant_of-result c =
    let made = c.in-Ok-make-2.ensures in
    let room = c.in-Ok.ensures in
    let late = c.in-Ok-make.ensures in
    stands_start c.args.expr c.args.k c.args.count c.args.room c.args.costs c.in-Ok-make-2.base c.in-Ok-make.late c.in-Ok.items.items _ made.begun made.held made.reserved
    late.kept late.k (late.room ∙ c.min-2.ensures) room.items (omega (arith, room.capacity, c.min.ensures))

pub returns-clause-begun : goal.returns-clause-begun
returns-clause-begun c =
    let place : Place = record { list = 0; depth = 1; done = false } in
    begun_with c.args.expr c.args.k c.args.count c.args.room c.args.costs c.in-Ok-make-2.base (need_at place) c.in-Ok-make-2.ensures.begun

pub returns-clause-run : goal.returns-clause-run
returns-clause-run c =
    let place : Place = record { list = 0; depth = 1; done = false } in
    kept_makes c.in-Ok-make-2.base c.in-Ok-make.late place (invariant_of-result c).kept
