use Rattle.std.proofs.Common.{refl, subst, sym, ◌∙◌}
use Rattle.std.specs.Vec.{vec_capacity}
use Rattle.topk_theory.specs.declared.access.Access.TheVariants.{Sorted}
use Rattle.std.proofs.lemmas.Result.{err_from_is_err_and}
use Rattle.machine_base.proofs.Held.{may_row, no_room}
use Rattle.ca_core.specs.Machine.{MakesItsRun}
use Rattle.ca_core.proofs.Runs.{kept_makes}
use Rattle.ca_core.proofs.Calls.{can_row, was_renewed, seen_row, may_move, row_stands, row_taken}
use Rattle.ca_core.proofs.ca.Ca.feed_row.Goals as goal
use Rattle.ca_core.specs.Course.{need_at}

pub returns-in_err-test_room-clause-run : goal.returns-in_err-test_room-clause-run
returns-in_err-test_room-clause-run c =
    let a = c.self.inside in
    subst MakesItsRun c.self.view_is (kept_makes a.base a.phase a.first.items a.stage c.self.invariant.kept c.self.invariant.paid)

pub tell-requires-clause-can : goal.tell-requires-clause-can
tell-requires-clause-can c =
    let a = c.self.inside in
    can_row a.base a.phase a.first.items a.stage c.args.row c.in-Row.list c.in-Row.depth c.self.invariant.kept (may_row a.base (need_at a.stage) c.args.self.now c.args.row c.self.view_is c.requires) (sym c.need.ensures ∙ c.in-Row.is) c.in_ok-test_room.ensures.fits

pub note-requires-clause-before : goal.note-requires-clause-before
note-requires-clause-before c =
    let a = c.self.inside in
    was_renewed a.base c.tell.new.self (Sorted c.in-Row.list c.args.row.object c.args.row.grade) c.args.row.object a.late c.tell.ensures.told refl
    (seen_row a.base c.tell.new.self c.in-Row.list c.args.row.object c.args.row.grade c.tell.ensures.told) c.self.invariant.seen

pub follow-self-inside-requires-clause-may : goal.follow-self-inside-requires-clause-may
follow-self-inside-requires-clause-may c =
    let a = c.self.inside in
    may_move a.base c.tell.new.self (Sorted c.in-Row.list c.args.row.object c.args.row.grade) a.phase a.late a.first.items (vec_capacity a.first) a.stage c.self.invariant c.tell.ensures.told

pub invariant_of-self : goal.invariant_of-self
invariant_of-self c =
    let a = c.self.inside in
    row_stands a.base c.tell.new.self a.phase a.late c.follow-self-inside.new.late a.first.items c.follow-self-inside.new.first.items (vec_capacity a.first) (vec_capacity c.follow-self-inside.new.first) a.stage c.follow-self-inside.result
    c.in-Row.list c.in-Row.depth c.args.row.object c.args.row.grade c.self.invariant (sym c.need.ensures ∙ c.in-Row.is)
    (can_row a.base a.phase a.first.items a.stage c.args.row c.in-Row.list c.in-Row.depth c.self.invariant.kept (may_row a.base (need_at a.stage) c.args.self.now c.args.row c.self.view_is c.requires) (sym c.need.ensures ∙ c.in-Row.is) c.in_ok-test_room.ensures.fits)
    c.tell.ensures.told c.tell.ensures.held c.tell.ensures.reserved c.follow-self-inside.ensures.seen c.follow-self-inside.ensures.capacity c.follow-self-inside.ensures.moved

pub returns-clause-fed : goal.returns-clause-fed
returns-clause-fed c =
    let a = c.self.inside in
    row_taken a.base c.tell.new.self a.stage c.follow-self-inside.result c.args.row c.in-Row.list c.in-Row.depth c.args.self.now c.self.view_is (sym c.need.ensures ∙ c.in-Row.is) c.in_ok-test_room.ensures.fits c.tell.ensures.told

pub returns-clause-run : goal.returns-clause-run
returns-clause-run c = kept_makes c.tell.new.self c.self.inside.phase c.follow-self-inside.new.first.items c.follow-self-inside.result (invariant_of-self c).kept (invariant_of-self c).paid

pub test_room-requires : goal.test_room-requires
test_room-requires c = c.self.invariant.kept.base

pub tell-requires-clause-held : goal.tell-requires-clause-held
tell-requires-clause-held c = c.self.invariant.kept.base

pub tell-requires-clause-reserved : goal.tell-requires-clause-reserved
tell-requires-clause-reserved c = c.self.invariant.reserved

pub note-requires-clause-held : goal.note-requires-clause-held
note-requires-clause-held c = c.tell.ensures.held

pub follow-self-inside-requires-clause-held : goal.follow-self-inside-requires-clause-held
follow-self-inside-requires-clause-held c = c.tell.ensures.held

pub follow-self-inside-requires-clause-seen : goal.follow-self-inside-requires-clause-seen
follow-self-inside-requires-clause-seen c = c.note.ensures

pub returns-in_err-test_room-clause-fed : goal.returns-in_err-test_room-clause-fed
returns-in_err-test_room-clause-fed c =
    let a = c.self.inside in
    let p = err_from_is_err_and c.from_residual.result c.from_residual.ensures.1 in
    rw (p.1, p.2) (no_room (Unit {0}) c.args.row a.base (need_at a.stage) c.args.self.now _ c.self.view_is c.in_err-test_room.ensures.full)
