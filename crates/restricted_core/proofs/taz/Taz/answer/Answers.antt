use Rattle.std.proofs.Common.{◌≡◌, subst, ap, ◌∙◌}
use Rattle.ranked_list.specs.declared.need.Need.TheVariants.{Done}
use Rattle.restricted_core.specs.Course.{need_at}
use Rattle.restricted_core.specs.Machine.{RestrictedState, MakesItsRun, IsAnswer, ReadsNearBest}
use Rattle.restricted_core.proofs.Runs.{kept_makes, answers, near_best}
use Rattle.restricted_core.proofs.taz.Taz.answer.Goals as goal

pub returns-in-Ok-clause-items : goal.returns-in-Ok-clause-items
returns-in-Ok-clause-items c =
    let a = c.self.inside in
    let done : need_at a.stage ≡ Done = ap (λ (t : RestrictedState). t.state.need) c.self.view_is ∙ c.requires in
    subst (λ (t : RestrictedState). IsAnswer t c.in-Ok.items) c.self.view_is
    (answers a.base a.sorted.items a.board a.stage c.in-Ok.items c.self.invariant.kept done c.in-Ok.ensures.only)

pub returns-in-Ok-clause-run : goal.returns-in-Ok-clause-run
returns-in-Ok-clause-run c =
    let a = c.self.inside in
    subst MakesItsRun c.self.view_is (kept_makes a.base a.sorted.items a.board a.stage c.self.invariant.kept)

pub returns-in-Err-clause-run : goal.returns-in-Err-clause-run
returns-in-Err-clause-run c =
    let a = c.self.inside in
    subst MakesItsRun c.self.view_is (kept_makes a.base a.sorted.items a.board a.stage c.self.invariant.kept)

pub returns-in-Ok-clause-near : goal.returns-in-Ok-clause-near
returns-in-Ok-clause-near c =
    let a = c.self.inside in
    let done : need_at a.stage ≡ Done = ap (λ (t : RestrictedState). t.state.need) c.self.view_is ∙ c.requires in
    subst ReadsNearBest c.self.view_is (near_best a.base a.sorted.items a.board a.stage c.self.invariant.kept done)

pub returns-in-Err-clause-near : goal.returns-in-Err-clause-near
returns-in-Err-clause-near c =
    let a = c.self.inside in
    let done : need_at a.stage ≡ Done = ap (λ (t : RestrictedState). t.state.need) c.self.view_is ∙ c.requires in
    subst ReadsNearBest c.self.view_is (near_best a.base a.sorted.items a.board a.stage c.self.invariant.kept done)
