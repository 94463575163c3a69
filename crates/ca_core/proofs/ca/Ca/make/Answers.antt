use Rattle.std.proofs.Common.{[], min, subst, arith}
use Rattle.ca_core.specs.declared.stage.Stage.TheVariants as stages
use Rattle.ca_core.specs.Seen.{AreRenewed}
use Rattle.ca_core.proofs.Runs.{kept_makes}
use Rattle.ca_core.proofs.Calls.{stands_start}
use Rattle.ca_core.proofs.ca.Ca.make.Goals as goal

pub invariant_of-result : goal.invariant_of-result
invariant_of-result c =
    let made = c.in-Ok-make-2.ensures in
    let room = c.in-Ok.ensures in
    stands_start c.args.expr c.args.k c.args.count c.args.room c.phase_length.result c.args.costs c.in-Ok-make-2.base c.in-Ok-make.late c.in-Ok.first.items _ made.begun made.held made.reserved
    room.items (omega (arith, room.capacity, c.min.ensures)) c.phase_length.ensures (λ e. subst (λ l. AreRenewed e c.args.k (min c.args.room c.args.count) l [] c.in-Ok-make.late) c.lists.ensures.lists
    (subst (λ r. AreRenewed e c.args.k r c.lists.result [] c.in-Ok-make.late) c.min-2.ensures (c.in-Ok-make.ensures e)))

pub returns-clause-run : goal.returns-clause-run
returns-clause-run c = kept_makes c.in-Ok-make-2.base c.phase_length.result c.in-Ok.first.items (stages.Row 0 1) (invariant_of-result c).kept (invariant_of-result c).paid
