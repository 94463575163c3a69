use Rattle.std.proofs.Common.{subst, sym, ap}
use Rattle.std.proofs.lemmas.Result.{err_from_is_err_and}
use Rattle.topk_theory.specs.declared.access.Access.TheVariants.{Sorted}
use Rattle.machine_base.specs.Base.{CanTake}
use Rattle.machine_base.proofs.Held.{may_row, no_room}
use Rattle.restricted_core.specs.Course.{need_at}
use Rattle.restricted_core.specs.Kept.{Keeps, IsRowTold}
use Rattle.restricted_core.specs.Machine.{RestrictedState, MakesItsRun}
use Rattle.restricted_core.proofs.Runs.{kept_makes}
use Rattle.restricted_core.proofs.Calls.{can_row, told_row, row_taken}
use Rattle.restricted_core.proofs.taz.Taz.feed_row.Goals as goal

pub test_room-requires : goal.test_room-requires
test_room-requires c = c.self.invariant.kept.base

pub returns-in_err-test_room-clause-run : goal.returns-in_err-test_room-clause-run
returns-in_err-test_room-clause-run c =
    let a = c.self.inside in
    subst MakesItsRun c.self.view_is (kept_makes a.base a.sorted.items a.board a.stage c.self.invariant.kept)

pub returns-in_err-test_room-clause-fed : goal.returns-in_err-test_room-clause-fed
returns-in_err-test_room-clause-fed c =
    let a = c.self.inside in
    let p = err_from_is_err_and c.from_residual.result c.from_residual.ensures.1 in
    rw (p.1, p.2) (no_room (Unit {0}) c.args.row a.base (need_at a.stage) c.args.self.now.state _ (ap (λ (t : RestrictedState). t.state) c.self.view_is) c.in_err-test_room.ensures.full)

pub tell-requires-clause-held : goal.tell-requires-clause-held
tell-requires-clause-held c = c.self.invariant.kept.base

pub tell-requires-clause-reserved : goal.tell-requires-clause-reserved
tell-requires-clause-reserved c = c.self.invariant.reserved

pub tell-requires-clause-can : goal.tell-requires-clause-can
tell-requires-clause-can c =
    let a = c.self.inside in
    can_row a.base a.sorted.items a.board a.stage c.args.row c.in-Row.list c.in-Row.depth c.in-Row.whole c.self.invariant.kept c.in-Row.is
    (may_row a.base (need_at a.stage) c.args.self.now.state c.args.row (ap (λ (t : RestrictedState). t.state) c.self.view_is) c.requires) c.in_ok-test_room.ensures.fits

pub follow_row-self-inside-requires : goal.follow_row-self-inside-requires
follow_row-self-inside-requires c =
    let a = c.self.inside in
    let can : CanTake a.base (Sorted c.in-Row.list c.args.row.object c.args.row.grade) =
    can_row a.base a.sorted.items a.board a.stage c.args.row c.in-Row.list c.in-Row.depth c.in-Row.whole c.self.invariant.kept c.in-Row.is
    (may_row a.base (need_at a.stage) c.args.self.now.state c.args.row (ap (λ (t : RestrictedState). t.state) c.self.view_is) c.requires) c.in_ok-test_room.ensures.fits in
    subst (λ s. IsRowTold c.tell.new.self s a.board c.in-Row.list c.in-Row.depth c.in-Row.whole) (sym c.as_slice-sorted.ensures.value)
    (told_row a.base c.tell.new.self a.sorted.items a.board a.stage c.in-Row.list c.in-Row.depth c.in-Row.whole c.args.row.object c.args.row.grade c.self.invariant.kept c.in-Row.is can c.tell.ensures.told c.tell.ensures.held)

pub invariant_of-self : goal.invariant_of-self
invariant_of-self c = record {
  kept = subst (λ s. Keeps c.tell.new.self s c.follow_row-self-inside.new.board c.follow_row-self-inside.result) c.as_slice-sorted.ensures.value c.follow_row-self-inside.ensures;
  reserved = c.tell.ensures.reserved;
}

pub returns-clause-fed : goal.returns-clause-fed
returns-clause-fed c =
    let a = c.self.inside in
    row_taken a.base c.tell.new.self a.stage c.follow_row-self-inside.result c.args.row c.in-Row.list c.in-Row.depth c.in-Row.whole c.args.self.now.state (ap (λ (t : RestrictedState). t.state) c.self.view_is) c.in-Row.is c.in_ok-test_room.ensures.fits c.tell.ensures.told

pub returns-clause-run : goal.returns-clause-run
returns-clause-run c = kept_makes c.tell.new.self c.self.inside.sorted.items c.follow_row-self-inside.new.board c.follow_row-self-inside.result (invariant_of-self c).kept
