use Rattle.std.proofs.Common.{◌≡◌, ◌%◌, ◌==◌, true, ap, ◌∙◌, arith, eq-eqb}
use Rattle.monotone_fn.specs.Value.{value}
use Rattle.topk_theory.specs.Combined.{choice}
use Rattle.ca_core.proofs.Courses.{row_nobody, row_choice}
use Rattle.ca_core.proofs.following.end_row.Goals as goal
use Rattle.ca_core.proofs.following.end_row.Goals.{After-choose}

-- the choice is that of the bound which is kept
chosen : (c : After-choose) → c.choose.result ≡ choice (value c.args.base.now.expr) c.args.base.now.k c.args.base.now.transcript.lists c.args.base.now.transcript.accesses
chosen c =
    let b = c.args.base.now in
    c.choose.ensures.chosen c.args.late.now.bounds.k (c.bound-bound.ensures b.expr b.transcript c.requires.seen.bounds)
    ∙ ap (λ k. choice (value b.expr) k b.transcript.lists b.transcript.accesses) c.requires.seen.same_k

in_phase : (c : After-choose) → ((c.args.depth % c.args.phase) == 0) ≡ true
in_phase c = (let here = c.if-depth-phase-ne0.false in eq-eqb (c.args.depth % c.args.phase) 0 (omega arith))

pub returns-in-Some-clause-moved : goal.returns-in-Some-clause-moved
returns-in-Some-clause-moved c =
    let b = c.args.base.now in
    let at = (goal.at.returns-in-Some-clause-moved c).After-choose in
    row_choice (value b.expr) b.k c.args.phase b.transcript.lists b.transcript.count b.transcript.accesses c.args.depth c.args.first.now.items c.in-Some.object c.choose.result _ (in_phase at) (chosen at) c.in-Some.is c.take_grade.ensures.moved

pub returns-in-None-clause-moved : goal.returns-in-None-clause-moved
returns-in-None-clause-moved c =
    let b = c.args.base.now in
    let at = (goal.at.returns-in-None-clause-moved c).After-choose in
    row_nobody (value b.expr) b.k c.args.phase b.transcript.lists b.transcript.count b.transcript.accesses c.args.depth c.args.first.now.items c.choose.result _ (in_phase at) (chosen at) c.in-None.is c.end_block-in-None.ensures.moved

pub take_grade-requires-clause-seen : goal.take_grade-requires-clause-seen
take_grade-requires-clause-seen c = record {
  same_k = c.requires.seen.same_k;
  same_room = c.requires.seen.same_room;
  space = c.choose.ensures.room ∙ c.requires.seen.space;
  bounds = c.requires.seen.bounds;
  highs = c.choose.ensures.kept;
}
