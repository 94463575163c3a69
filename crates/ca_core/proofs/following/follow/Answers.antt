use Rattle.std.proofs.Common.{drop, ap, ◌∙◌}
use Rattle.monotone_fn.specs.Value.{value}
use Rattle.topk_theory.specs.Threshold.{item_objects}
use Rattle.machine_base.specs.Asking.{ask_from}
use Rattle.ca_core.specs.Course.{finish_of}
use Rattle.ca_core.proofs.Courses.{moved_grade, moved_finish, moved_done}
use Rattle.ca_core.proofs.following.follow.Goals as goal

pub returns-in-Choice-clause-moved : goal.returns-in-Choice-clause-moved
returns-in-Choice-clause-moved c =
    let b = c.args.base.now in
    moved_grade (value b.expr) b.k c.args.phase b.transcript.lists b.transcript.count b.transcript.accesses c.in-Choice.list c.in-Choice.object c.in-Choice.depth c.args.first.now.items c.args.stage _ c.in-Choice.is c.take_grade.ensures.moved

pub returns-in-Finish-clause-moved : goal.returns-in-Finish-clause-moved
returns-in-Finish-clause-moved c =
    let b = c.args.base.now in
    moved_finish (value b.expr) b.k c.args.phase b.transcript.lists b.transcript.count b.transcript.accesses c.in-Finish.ask c.args.first.now.items c.args.stage c.finish.result c.in-Finish.is
    (c.finish.ensures ∙ ap finish_of (c.ask_from.ensures ∙ ap (λ xs. ask_from b.transcript.lists b.transcript.accesses (drop c.in-Finish.ask.place (item_objects xs)) c.in-Finish.ask.place) c.as_slice.ensures.value))

pub returns-in-Done-clause-moved : goal.returns-in-Done-clause-moved
returns-in-Done-clause-moved c =
    let b = c.args.base.now in
    moved_done (value b.expr) b.k c.args.phase b.transcript.lists b.transcript.count b.transcript.accesses c.args.first.now.items c.args.stage c.in-Done.is
