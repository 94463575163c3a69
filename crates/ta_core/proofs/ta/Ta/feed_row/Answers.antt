use Rattle.std.proofs.Common.{◌<◌, length, subst, ap, ◌∙◌, arith}
use Rattle.std.proofs.lemmas.Result.{err_from_is_err_and}
use Rattle.topk_theory.specs.declared.access.Access.TheVariants.{Sorted}
use Rattle.machine_base.proofs.Held.{may_row, no_room}
use Rattle.ta_core.specs.Reading.{row_added, need_at}
use Rattle.ta_core.specs.Halting.{passes_by}
use Rattle.ta_core.specs.Shown.{reading_of}
use Rattle.ta_core.specs.Machine.{ThresholdState, MakesItsRun}
use Rattle.ta_core.proofs.Runs.{kept_makes}
use Rattle.ta_core.proofs.Calls.{IsReady, IsFed, next_row_is, can_row, row_fed, fed_ready, fed_kept, row_taken}
use Rattle.ta_core.proofs.ta.Ta.feed_row.Goals as goal
use Rattle.ta_core.proofs.ta.Ta.feed_row.Goals.{After-add_row}

-- its access is told, and the reading has it
fed : (c : After-add_row)
    → IsFed (passes_by c.self.inside.halting) c.self.inside.base c.tell.new.self c.self.inside.board (reading_of c.add_row.new.self)
    (Sorted (length (reading_of c.self.inside.progress).objects) c.args.row.object c.args.row.grade)
fed c =
    let a = c.self.inside in
    let ok = c.in_ok-is_new.ensures in
    row_fed (passes_by a.halting) a.base c.tell.new.self a.board (reading_of a.progress) (reading_of c.add_row.new.self) c.args.row c.len.result c.in_ok-is_new.is_new
    c.self.invariant.kept (may_row a.base (need_at a.base.transcript.lists (reading_of a.progress)) c.args.self.now.state c.args.row (ap (λ (t : ThresholdState). t.state) c.self.view_is) c.requires) ok.new ok.fits c.len.ensures.value c.tell.ensures.told c.tell.ensures.held.agreeing
    (c.add_row.ensures ∙ ap (λ m. row_added m (reading_of a.progress) c.args.row c.in_ok-is_new.is_new) c.lists.ensures.lists)

ready : (c : After-add_row) → IsReady c.tell.new.self.transcript.lists c.self.inside.board (reading_of c.add_row.new.self)
ready c =
    let a = c.self.inside in
    fed_ready (passes_by a.halting) a.base c.tell.new.self a.board (reading_of c.add_row.new.self) (Sorted (length (reading_of a.progress).objects) c.args.row.object c.args.row.grade) (fed c)

pub returns-in_err-is_new-clause-run : goal.returns-in_err-is_new-clause-run
returns-in_err-is_new-clause-run c =
    let a = c.self.inside in
    subst MakesItsRun c.self.view_is (kept_makes a.halting a.base a.board (reading_of a.progress) c.self.invariant.kept)

pub returns-in_err-is_new-clause-fed : goal.returns-in_err-is_new-clause-fed
returns-in_err-is_new-clause-fed c =
    let a = c.self.inside in
    let p = err_from_is_err_and c.from_residual.result c.from_residual.ensures.1 in
    rw (p.1, p.2) (no_room (Unit {0}) c.args.row a.base (need_at a.base.transcript.lists (reading_of a.progress)) c.args.self.now.state _ (ap (λ (t : ThresholdState). t.state) c.self.view_is) c.in_err-is_new.ensures.full)

pub tell-requires-clause-can : goal.tell-requires-clause-can
tell-requires-clause-can c =
    let a = c.self.inside in
    can_row (passes_by a.halting) a.base a.board (reading_of a.progress) c.args.row c.len.result c.self.invariant.kept (may_row a.base (need_at a.base.transcript.lists (reading_of a.progress)) c.args.self.now.state c.args.row (ap (λ (t : ThresholdState). t.state) c.self.view_is) c.requires) c.in_ok-is_new.ensures.fits c.len.ensures.value

pub add_row-requires-clause-unread : goal.add_row-requires-clause-unread
add_row-requires-clause-unread c =
    let a = c.self.inside in
    let next = next_row_is a.base.transcript (reading_of a.progress) c.args.row (may_row a.base (need_at a.base.transcript.lists (reading_of a.progress)) c.args.self.now.state c.args.row (ap (λ (t : ThresholdState). t.state) c.self.view_is) c.requires) in
    let short : length a.progress.objects.items < a.base.transcript.lists = next.1 in
    omega (arith, c.lists.ensures.lists, c.tell.ensures.told.log.lists)

pub add_row-requires-clause-same : goal.add_row-requires-clause-same
add_row-requires-clause-same c = c.self.invariant.kept.sound.same_length

pub add_row-requires-clause-waits : goal.add_row-requires-clause-waits
add_row-requires-clause-waits c = c.self.invariant.kept.sound.few

pub add_row-requires-clause-none : goal.add_row-requires-clause-none
add_row-requires-clause-none c =
    let a = c.self.inside in
    c.self.invariant.kept.rest.in_row (next_row_is a.base.transcript (reading_of a.progress) c.args.row (may_row a.base (need_at a.base.transcript.lists (reading_of a.progress)) c.args.self.now.state c.args.row (ap (λ (t : ThresholdState). t.state) c.self.view_is) c.requires)).1

pub score-requires-clause-grades : goal.score-requires-clause-grades
score-requires-clause-grades c = (ready (goal.at.score-requires-clause-grades c).After-add_row).grades

pub score-requires-clause-room : goal.score-requires-clause-room
score-requires-clause-room c = (ready (goal.at.score-requires-clause-room c).After-add_row).room

pub follow-requires-clause-bottoms : goal.follow-requires-clause-bottoms
follow-requires-clause-bottoms c = (ready (goal.at.follow-requires-clause-bottoms c).After-add_row).bottoms

pub test_room-requires : goal.test_room-requires
test_room-requires c = c.self.invariant.kept.base

pub tell-requires-clause-held : goal.tell-requires-clause-held
tell-requires-clause-held c = c.self.invariant.kept.base

pub tell-requires-clause-reserved : goal.tell-requires-clause-reserved
tell-requires-clause-reserved c = c.self.invariant.reserved

pub add_row-requires-clause-few : goal.add_row-requires-clause-few
add_row-requires-clause-few c = omega (arith, c.lists.ensures.lists, c.tell.ensures.held.few_lists)

pub score-requires-clause-held : goal.score-requires-clause-held
score-requires-clause-held c = c.tell.ensures.held

pub score-requires-clause-waits : goal.score-requires-clause-waits
score-requires-clause-waits c = (ready (goal.at.score-requires-clause-waits c).After-add_row).waits

pub follow-requires-clause-held : goal.follow-requires-clause-held
follow-requires-clause-held c = c.tell.ensures.held

pub follow-requires-clause-same : goal.follow-requires-clause-same
follow-requires-clause-same c = (ready (goal.at.follow-requires-clause-same c).After-add_row).same

pub follow-requires-clause-waits : goal.follow-requires-clause-waits
follow-requires-clause-waits c = (ready (goal.at.follow-requires-clause-waits c).After-add_row).waits

pub follow-requires-clause-deep : goal.follow-requires-clause-deep
follow-requires-clause-deep c = omega (arith, (ready (goal.at.follow-requires-clause-deep c).After-add_row).deep)

pub invariant_of-self : goal.invariant_of-self
invariant_of-self c =
    let a = c.self.inside in
    record {
      kept = fed_kept (passes_by a.halting) a.base c.tell.new.self a.board c.score.new.board (reading_of c.add_row.new.self) (reading_of c.follow.new.progress) (Sorted (length (reading_of a.progress).objects) c.args.row.object c.args.row.grade) (fed (goal.at.invariant_of-self c).After-add_row) c.score.ensures c.follow.ensures;
      reserved = c.tell.ensures.reserved;
    }

pub returns-clause-fed : goal.returns-clause-fed
returns-clause-fed c =
    let a = c.self.inside in
    row_taken a.base c.tell.new.self (reading_of a.progress) (need_at c.tell.new.self.transcript.lists (reading_of c.follow.new.progress)) c.args.row c.len.result c.args.self.now.state (ap (λ (t : ThresholdState). t.state) c.self.view_is) (may_row a.base (need_at a.base.transcript.lists (reading_of a.progress)) c.args.self.now.state c.args.row (ap (λ (t : ThresholdState). t.state) c.self.view_is) c.requires) c.in_ok-is_new.ensures.fits c.len.ensures.value c.tell.ensures.told

pub returns-clause-run : goal.returns-clause-run
returns-clause-run c = kept_makes c.self.inside.halting c.tell.new.self c.score.new.board (reading_of c.follow.new.progress) (invariant_of-self c).kept
