use Rattle.std.proofs.Common.{◌+◌, ◌≡◌, subst, arith}
use Rattle.catalog_open.specs.Views.{view_over, nothing_told}
use Rattle.catalog_run.specs.Running.{line_text}
use Rattle.topk_top.specs.Laws.{IsFixedIfAnswered}
use Rattle.topk_top.proofs.AnswersFixed.{one_fixed}
use Rattle.topk_top.proofs.LinesFixed.{lines_fixed, told_fixed, again_fixed}
use Rattle.topk_top.proofs.laws.answers_are_fixed.Goals as goal

pub returns : goal.returns
returns c = record {
  one = one_fixed;
  run = λ r outcomes run at o e.
      let place : 1 + at ≡ at + 1 = omega arith in
      subst (λ n. IsFixedIfAnswered o (line_text n o)) place
      (lines_fixed (view_over r.catalog run.openings nothing_told) run.ran.ran.queries 1 r.lines outcomes at o (omega arith) run.ran.outcomes_are e);
  serve = told_fixed;
  again = again_fixed;
}
