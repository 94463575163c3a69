use Rattle.std.proofs.Common.{◌≡◌, subst, ap, ◌∙◌}
use Rattle.ranked_list.specs.declared.need.Need.TheVariants.{Done}
use Rattle.machine_base.specs.Base.{shown}
use Rattle.ta_core.specs.Reading.{need_at}
use Rattle.ta_core.specs.Shown.{reading_of}
use Rattle.ta_core.specs.Machine.{ThresholdState, MakesItsRun, IsAnswer}
use Rattle.ta_core.proofs.Runs.{kept_makes}
use Rattle.ta_core.proofs.Answering.{answers}
use Rattle.ta_core.proofs.Answers.{rule_answers}
use Rattle.ta_core.proofs.ta.Ta.answer.Goals as goal

pub returns-in-Ok-clause-items : goal.returns-in-Ok-clause-items
returns-in-Ok-clause-items c =
    let a = c.self.inside in
    let r = reading_of a.progress in
    let done : need_at a.base.transcript.lists r ≡ Done = ap (λ (t : ThresholdState). t.state.need) c.self.view_is ∙ c.requires in
    subst (λ (t : ThresholdState). IsAnswer t c.in-Ok.items) c.self.view_is
    (rule_answers a.halting (shown a.base (need_at a.base.transcript.lists r)) c.in-Ok.items c.self.invariant.kept.fit (kept_makes a.halting a.base a.board r c.self.invariant.kept) done
    c.self.invariant.kept.base.some_list (answers a.halting a.base a.board r c.in-Ok.items c.self.invariant.kept done c.in-Ok.ensures.only))

pub returns-in-Ok-clause-run : goal.returns-in-Ok-clause-run
returns-in-Ok-clause-run c =
    let a = c.self.inside in
    subst MakesItsRun c.self.view_is (kept_makes a.halting a.base a.board (reading_of a.progress) c.self.invariant.kept)

pub returns-in-Err-clause-run : goal.returns-in-Err-clause-run
returns-in-Err-clause-run c =
    let a = c.self.inside in
    subst MakesItsRun c.self.view_is (kept_makes a.halting a.base a.board (reading_of a.progress) c.self.invariant.kept)
