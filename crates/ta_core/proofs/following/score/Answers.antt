use Rattle.std.proofs.Common.{length, get_or, subst, sym, ap, ◌∙◌, eqb-true}
use Rattle.monotone_fn.specs.Limits.{AreGrades}
use Rattle.monotone_fn.specs.Value.{value}
use Rattle.ta_core.specs.Shown.{reading_of}
use Rattle.ta_core.proofs.Calls.{waits_first}
use Rattle.ta_core.proofs.CallSteps.{scored_put}
use Rattle.ta_core.proofs.following.score.Goals as goal

pub returns-then-is_scored : goal.returns-then-is_scored
returns-then-is_scored c =
    let V = value c.args.base.now.expr in
    let r = reading_of c.args.progress.now in
    scored_put V c.args.base.now.transcript.lists c.lists.result c.args.board.now c.put.new.self r (get_or c.deref.result.now 0 0) c.eval-aggregate.result c.lists.ensures.lists c.if-is_scored.ensures
    (waits_first r c.deref.result.now c.deref.ensures.0) (c.eval-aggregate.ensures.value ∙ ap V c.as_slice.ensures.value) c.put.ensures

pub eval-aggregate-requires-clause-lists : goal.eval-aggregate-requires-clause-lists
eval-aggregate-requires-clause-lists c =
    ap (λ xs. length xs) c.as_slice.ensures.value
    ∙ eqb-true (length c.args.progress.now.grades.items) c.lists.result (sym c.if-is_scored.ensures)
    ∙ c.lists.ensures.lists
    ∙ c.requires.held.posed.lists

pub eval-aggregate-requires-clause-capped : goal.eval-aggregate-requires-clause-capped
eval-aggregate-requires-clause-capped c = subst AreGrades (sym c.as_slice.ensures.value) c.requires.grades

pub put-requires : goal.put-requires
put-requires c = λ _. c.requires.room (eqb-true (length c.args.progress.now.grades.items) c.lists.result (sym c.if-is_scored.ensures) ∙ c.lists.ensures.lists)
