use Rattle.std.proofs.Common.{◌∙◌}
use Rattle.ta_core.specs.Shown.{reading_of}
use Rattle.ta_core.proofs.Calls.{stands_start}
use Rattle.ta_core.proofs.Runs.{kept_makes}
use Rattle.ta_core.proofs.ta.Ta.make.Goals as goal

pub invariant_of-result : goal.invariant_of-result
invariant_of-result c =
    let made = c.in-Ok-make.ensures in
    stands_start c.args.halting c.args.expr c.args.k c.args.count c.args.room c.args.costs c.in-Ok-make.base c.in-Ok.board (reading_of c.at.result)
    c.requires.fair made.begun made.held made.reserved c.in-Ok.ensures.same_k (c.in-Ok.ensures.same_room ∙ c.min.ensures) c.in-Ok.ensures.empty c.at.ensures

pub returns-clause-run : goal.returns-clause-run
returns-clause-run c = kept_makes c.args.halting c.in-Ok-make.base c.in-Ok.board (reading_of c.at.result) (invariant_of-result c).kept
