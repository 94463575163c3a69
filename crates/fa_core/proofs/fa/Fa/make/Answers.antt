use Rattle.std.proofs.Common.{arith}
use Rattle.fa_core.specs.declared.stage.Stage.TheVariants as stages
use Rattle.fa_core.proofs.Runs.{kept_makes}
use Rattle.fa_core.proofs.Calls.{stands_start}
use Rattle.fa_core.proofs.fa.Fa.make.Goals as goal

pub invariant_of-result : goal.invariant_of-result
invariant_of-result c =
    let made = c.in-Ok-make.ensures in
    let room = c.in-Ok.ensures in
    stands_start c.args.expr c.args.k c.args.count c.args.room c.args.costs c.in-Ok-make.base c.in-Ok.items.items _ made.begun made.held made.reserved
    room.items (omega (arith, room.capacity, c.min.ensures))

pub returns-clause-run : goal.returns-clause-run
returns-clause-run c = kept_makes c.in-Ok-make.base (stages.Row 0 1 0) (invariant_of-result c).kept
