use Rattle.std.proofs.Common.{length, get_or, ap, arith}
use Rattle.topk_theory.specs.declared.access.Access.TheVariants.{Random}
use Rattle.machine_base.proofs.Held.{may_grade}
use Rattle.ta_core.specs.Reading.{first_or_zero, need_at}
use Rattle.ta_core.specs.Halting.{passes_by}
use Rattle.ta_core.specs.Machine.{ThresholdState}
use Rattle.ta_core.specs.Shown.{reading_of}
use Rattle.ta_core.proofs.Runs.{kept_makes}
use Rattle.ta_core.proofs.Calls.{IsReady, IsFed, next_grade_is, waits_first, can_grade, grade_fed, fed_ready, fed_kept, grade_taken}
use Rattle.ta_core.proofs.ta.Ta.feed_grade.Goals as goal
use Rattle.ta_core.proofs.ta.Ta.feed_grade.Goals.{After-add_grade}

-- its access is told, and the reading has it
fed : (c : After-add_grade)
    → IsFed (passes_by c.self.inside.halting) c.self.inside.base c.tell.new.self c.self.inside.board (reading_of c.add_grade.new.self)
    (Random (length (reading_of c.self.inside.progress).grades) (first_or_zero (reading_of c.self.inside.progress).waiting) c.args.grade)
fed c =
    let a = c.self.inside in
    grade_fed (passes_by a.halting) a.base c.tell.new.self a.board (reading_of a.progress) (reading_of c.add_grade.new.self) c.args.grade c.len.result (get_or c.deref.result.now 0 0)
    c.self.invariant.kept (may_grade a.base (need_at a.base.transcript.lists (reading_of a.progress)) c.args.self.now.state c.args.grade (ap (λ (t : ThresholdState). t.state) c.self.view_is) c.requires) c.len.ensures.value (waits_first (reading_of a.progress) c.deref.result.now c.deref.ensures.0) c.tell.ensures.told c.tell.ensures.held.agreeing c.add_grade.ensures

ready : (c : After-add_grade) → IsReady c.tell.new.self.transcript.lists c.self.inside.board (reading_of c.add_grade.new.self)
ready c =
    let a = c.self.inside in
    fed_ready (passes_by a.halting) a.base c.tell.new.self a.board (reading_of c.add_grade.new.self) (Random (length (reading_of a.progress).grades) (first_or_zero (reading_of a.progress).waiting) c.args.grade) (fed c)

pub tell-requires-clause-can : goal.tell-requires-clause-can
tell-requires-clause-can c =
    let a = c.self.inside in
    can_grade (passes_by a.halting) a.base a.board (reading_of a.progress) c.args.grade c.len.result (get_or c.deref.result.now 0 0) c.self.invariant.kept (may_grade a.base (need_at a.base.transcript.lists (reading_of a.progress)) c.args.self.now.state c.args.grade (ap (λ (t : ThresholdState). t.state) c.self.view_is) c.requires) c.len.ensures.value (waits_first (reading_of a.progress) c.deref.result.now c.deref.ensures.0)

pub tell-requires-clause-held : goal.tell-requires-clause-held
tell-requires-clause-held c = c.self.invariant.kept.base

pub tell-requires-clause-reserved : goal.tell-requires-clause-reserved
tell-requires-clause-reserved c = c.self.invariant.reserved

pub add_grade-requires-clause-waits : goal.add_grade-requires-clause-waits
add_grade-requires-clause-waits c =
    let a = c.self.inside in
    let next = next_grade_is a.base.transcript (reading_of a.progress) c.args.grade (may_grade a.base (need_at a.base.transcript.lists (reading_of a.progress)) c.args.self.now.state c.args.grade (ap (λ (t : ThresholdState). t.state) c.self.view_is) c.requires) in
    (c.self.invariant.kept.rest.after_row next.0 next.1).0

pub add_grade-requires-clause-missing : goal.add_grade-requires-clause-missing
add_grade-requires-clause-missing c =
    let a = c.self.inside in
    let next = next_grade_is a.base.transcript (reading_of a.progress) c.args.grade (may_grade a.base (need_at a.base.transcript.lists (reading_of a.progress)) c.args.self.now.state c.args.grade (ap (λ (t : ThresholdState). t.state) c.self.view_is) c.requires) in
    omega (arith, (c.self.invariant.kept.rest.after_row next.0 next.1).1, next.1)

pub add_grade-requires-clause-few : goal.add_grade-requires-clause-few
add_grade-requires-clause-few c = omega (arith, c.self.invariant.kept.sound.within, c.self.invariant.kept.base.few_lists)

pub add_grade-requires-clause-same : goal.add_grade-requires-clause-same
add_grade-requires-clause-same c = c.self.invariant.kept.sound.same_length

pub score-requires-clause-grades : goal.score-requires-clause-grades
score-requires-clause-grades c = (ready (goal.at.score-requires-clause-grades c).After-add_grade).grades

pub score-requires-clause-room : goal.score-requires-clause-room
score-requires-clause-room c = (ready (goal.at.score-requires-clause-room c).After-add_grade).room

pub score-requires-clause-held : goal.score-requires-clause-held
score-requires-clause-held c = c.tell.ensures.held

pub score-requires-clause-waits : goal.score-requires-clause-waits
score-requires-clause-waits c = (ready (goal.at.score-requires-clause-waits c).After-add_grade).waits

pub follow-requires-clause-held : goal.follow-requires-clause-held
follow-requires-clause-held c = c.tell.ensures.held

pub follow-requires-clause-bottoms : goal.follow-requires-clause-bottoms
follow-requires-clause-bottoms c = (ready (goal.at.follow-requires-clause-bottoms c).After-add_grade).bottoms

pub follow-requires-clause-same : goal.follow-requires-clause-same
follow-requires-clause-same c = (ready (goal.at.follow-requires-clause-same c).After-add_grade).same

pub follow-requires-clause-waits : goal.follow-requires-clause-waits
follow-requires-clause-waits c = (ready (goal.at.follow-requires-clause-waits c).After-add_grade).waits

pub follow-requires-clause-deep : goal.follow-requires-clause-deep
follow-requires-clause-deep c = omega (arith, (ready (goal.at.follow-requires-clause-deep c).After-add_grade).deep)

pub invariant_of-self : goal.invariant_of-self
invariant_of-self c =
    let a = c.self.inside in
    record {
      kept = fed_kept (passes_by a.halting) a.base c.tell.new.self a.board c.score.new.board (reading_of c.add_grade.new.self) (reading_of c.follow.new.progress) (Random (length (reading_of a.progress).grades) (first_or_zero (reading_of a.progress).waiting) c.args.grade) (fed (goal.at.invariant_of-self c).After-add_grade) c.score.ensures c.follow.ensures;
      reserved = c.tell.ensures.reserved;
    }

pub returns-clause-fed : goal.returns-clause-fed
returns-clause-fed c =
    let a = c.self.inside in
    grade_taken a.base c.tell.new.self (reading_of a.progress) (need_at c.tell.new.self.transcript.lists (reading_of c.follow.new.progress)) c.args.grade c.len.result (get_or c.deref.result.now 0 0) c.args.self.now.state (ap (λ (t : ThresholdState). t.state) c.self.view_is) (may_grade a.base (need_at a.base.transcript.lists (reading_of a.progress)) c.args.self.now.state c.args.grade (ap (λ (t : ThresholdState). t.state) c.self.view_is) c.requires) c.len.ensures.value (waits_first (reading_of a.progress) c.deref.result.now c.deref.ensures.0) c.tell.ensures.told

pub returns-clause-run : goal.returns-clause-run
returns-clause-run c = kept_makes c.self.inside.halting c.tell.new.self c.score.new.board (reading_of c.follow.new.progress) (invariant_of-self c).kept
