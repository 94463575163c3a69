use Rattle.monotone_fn.specs.Value.{value}
use Rattle.ca_core.proofs.Courses.{grade_goes, grade_ends}
use Rattle.ca_core.proofs.following.take_grade.Goals as goal

pub returns-in-Some-clause-moved : goal.returns-in-Some-clause-moved
returns-in-Some-clause-moved c =
    let b = c.args.base.now in
    grade_goes (value b.expr) b.k b.transcript.lists b.transcript.count b.transcript.accesses c.args.depth c.args.first.now.items c.args.object c.in-Some.list c.next_unknown.result c.next_unknown.ensures c.in-Some.is

pub returns-in-None-clause-moved : goal.returns-in-None-clause-moved
returns-in-None-clause-moved c =
    let b = c.args.base.now in
    grade_ends (value b.expr) b.k b.transcript.lists b.transcript.count b.transcript.accesses c.args.depth c.args.first.now.items c.args.object c.next_unknown.result _ c.next_unknown.ensures c.in-None.is c.end_block.ensures.moved
