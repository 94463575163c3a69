use Rattle.std.proofs.Common.{◌∙◌, subst, sym}
use Rattle.restricted_core.specs.declared.stage.Stage.TheVariants as stages
use Rattle.restricted_core.specs.Kept.{Stands}
use Rattle.restricted_core.proofs.Calls.{stands_start}
use Rattle.restricted_core.proofs.Runs.{kept_makes}
use Rattle.restricted_core.proofs.taz.Taz.make.Goals as goal

pub invariant_of-result : goal.invariant_of-result
invariant_of-result c =
    let made = c.in-Ok-make-2.ensures in
    subst (λ flags. Stands c.in-Ok-make-2.base flags c.in-Ok-make.board (stages.Row c.in-Some.list 1 0)) (sym c.in-Ok.ensures.items)
    (stands_start c.args.expr c.args.k c.args.count c.args.room c.args.costs c.in-Ok-make-2.base c.in-Ok-make.board c.args.sorted.now c.in-Some.list
    made.begun made.held made.reserved c.in-Ok-make.ensures.same_k (c.in-Ok-make.ensures.same_room ∙ c.min.ensures) c.in-Ok-make.ensures.empty
    c.requires.one_each c.in-Some.ensures)

pub returns-clause-run : goal.returns-clause-run
returns-clause-run c = kept_makes c.in-Ok-make-2.base c.in-Ok.sorted.items c.in-Ok-make.board (stages.Row c.in-Some.list 1 0) (invariant_of-result c).kept
