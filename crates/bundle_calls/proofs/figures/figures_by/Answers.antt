use Rattle.std.proofs.Common.{sym, ◌∙◌, subst}
use Rattle.bundle_calls.specs.Comparing.{IsOver}
use Rattle.bundle_calls.proofs.CompareLaws.{over_by, figures_right, has_cost}
use Rattle.bundle_calls.proofs.figures.figures_by.Goals as goal

pub answer_over-requires-clause-ready : goal.answer_over-requires-clause-ready
answer_over-requires-clause-ready c =
    (over_by c.args.algorithm c.args.ready.now c.args.lists.now c.ask_by.new.query c.requires.rated c.ask_by.ensures c.requires.over).ready

pub figures_of-requires : goal.figures_of-requires
figures_of-requires c =
    has_cost c.args.algorithm c.args.ready.now c.args.lists.now c.ask_by.new.query c.in-Ok.answer c.requires.rated c.ask_by.ensures c.requires.over c.in-Ok.ensures.runs

pub returns-in-Ok-clause-over : goal.returns-in-Ok-clause-over
returns-in-Ok-clause-over c =
    subst (IsOver (record c.args.ready.now { query = c.ask_by.new.query })) (sym c.answer_over.ensures.same)
    (over_by c.args.algorithm c.args.ready.now c.args.lists.now c.ask_by.new.query c.requires.rated c.ask_by.ensures c.requires.over)

pub returns-in-Ok-clause-figures : goal.returns-in-Ok-clause-figures
returns-in-Ok-clause-figures c =
    c.figures_of.ensures
    ∙ figures_right c.args.algorithm c.args.ready.now c.args.lists.now c.ask_by.new.query c.in-Ok.answer c.ask_by.ensures c.requires.over c.in-Ok.ensures.runs

pub returns-in-Err-Memory-clause-over : goal.returns-in-Err-Memory-clause-over
returns-in-Err-Memory-clause-over c =
    subst (IsOver (record c.args.ready.now { query = c.ask_by.new.query })) (sym c.answer_over.ensures.same)
    (over_by c.args.algorithm c.args.ready.now c.args.lists.now c.ask_by.new.query c.requires.rated c.ask_by.ensures c.requires.over)
