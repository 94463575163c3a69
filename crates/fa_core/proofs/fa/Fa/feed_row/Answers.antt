use Rattle.std.proofs.Common.{subst, ap, ◌∙◌}
use Rattle.std.specs.Vec.{vec_capacity}
use Rattle.std.proofs.lemmas.Result.{err_from_is_err_and}
use Rattle.machine_base.proofs.Held.{may_row, no_room}
use Rattle.fa_core.specs.Course.{need_at, row_followed}
use Rattle.fa_core.specs.Machine.{MakesItsRun}
use Rattle.fa_core.proofs.Runs.{kept_makes}
use Rattle.fa_core.proofs.Calls.{can_row, row_listed, depth_small, common_small, row_stands, row_taken}
use Rattle.fa_core.proofs.fa.Fa.feed_row.Goals as goal

pub test_room-requires : goal.test_room-requires
test_room-requires c = c.self.invariant.kept.base

pub returns-in_err-test_room-clause-run : goal.returns-in_err-test_room-clause-run
returns-in_err-test_room-clause-run c =
    let a = c.self.inside in
    subst MakesItsRun c.self.view_is (kept_makes a.base a.stage c.self.invariant.kept)

pub returns-in_err-test_room-clause-fed : goal.returns-in_err-test_room-clause-fed
returns-in_err-test_room-clause-fed c =
    let a = c.self.inside in
    let p = err_from_is_err_and c.from_residual.result c.from_residual.ensures.1 in
    rw (p.1, p.2) (no_room (Unit {0}) c.args.row a.base (need_at a.stage) c.args.self.now _ c.self.view_is c.in_err-test_room.ensures.full)

pub tell-requires-clause-held : goal.tell-requires-clause-held
tell-requires-clause-held c = c.self.invariant.kept.base

pub tell-requires-clause-reserved : goal.tell-requires-clause-reserved
tell-requires-clause-reserved c = c.self.invariant.reserved

pub tell-requires-clause-can : goal.tell-requires-clause-can
tell-requires-clause-can c =
    let a = c.self.inside in
    can_row a.base a.stage c.args.row c.in-Row.list c.in-Row.depth c.in-Row.common c.self.invariant.kept c.in-Row.is (may_row a.base (need_at a.stage) c.args.self.now c.args.row c.self.view_is c.requires) c.in_ok-test_room.ensures.fits

pub common_after-common-requires : goal.common_after-common-requires
common_after-common-requires c = common_small c.self.inside.base c.self.inside.stage c.in-Row.list c.in-Row.depth c.in-Row.common c.self.invariant.kept c.in-Row.is

pub follow_row-self-inside-requires-clause-held : goal.follow_row-self-inside-requires-clause-held
follow_row-self-inside-requires-clause-held c = c.tell.ensures.held

pub follow_row-self-inside-requires-clause-list : goal.follow_row-self-inside-requires-clause-list
follow_row-self-inside-requires-clause-list c =
    let a = c.self.inside in
    row_listed a.base c.tell.new.self a.stage c.in-Row.list c.in-Row.depth c.in-Row.common c.args.row.object c.args.row.grade c.self.invariant.kept c.in-Row.is c.tell.ensures.told

pub follow_row-self-inside-requires-clause-deep : goal.follow_row-self-inside-requires-clause-deep
follow_row-self-inside-requires-clause-deep c = depth_small c.self.inside.base c.self.inside.stage c.in-Row.list c.in-Row.depth c.in-Row.common c.self.invariant.kept c.in-Row.is

pub invariant_of-self : goal.invariant_of-self
invariant_of-self c =
    let a = c.self.inside in
    row_stands a.base c.tell.new.self a.items.items (vec_capacity a.items) a.stage c.follow_row-self-inside.result c.in-Row.list c.in-Row.depth c.in-Row.common c.args.row.object c.args.row.grade
    c.self.invariant c.in-Row.is
    (can_row a.base a.stage c.args.row c.in-Row.list c.in-Row.depth c.in-Row.common c.self.invariant.kept c.in-Row.is (may_row a.base (need_at a.stage) c.args.self.now c.args.row c.self.view_is c.requires) c.in_ok-test_room.ensures.fits)
    c.tell.ensures.told c.tell.ensures.held c.tell.ensures.reserved
    (c.follow_row-self-inside.ensures ∙ ap (row_followed c.tell.new.self.k c.tell.new.self.transcript.lists c.tell.new.self.transcript.accesses c.in-Row.list c.in-Row.depth) c.common_after-common.ensures)

pub returns-clause-fed : goal.returns-clause-fed
returns-clause-fed c =
    let a = c.self.inside in
    row_taken a.base c.tell.new.self a.stage c.follow_row-self-inside.result c.args.row c.in-Row.list c.in-Row.depth c.in-Row.common c.args.self.now c.self.view_is c.in-Row.is c.in_ok-test_room.ensures.fits c.tell.ensures.told

pub returns-clause-run : goal.returns-clause-run
returns-clause-run c = kept_makes c.tell.new.self c.follow_row-self-inside.result (invariant_of-self c).kept
