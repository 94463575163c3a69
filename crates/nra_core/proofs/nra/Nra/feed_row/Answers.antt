use Rattle.std.proofs.Common.{subst, sym, ◌∙◌, arith}
use Rattle.std.proofs.lemmas.Result.{err_from_is_err_and}
use Rattle.machine_base.proofs.Held.{may_row, no_room}
use Rattle.nra_core.specs.Machine.{MakesItsRun}
use Rattle.nra_core.proofs.Runs.{kept_makes}
use Rattle.nra_core.proofs.Feeds.{ready, can_row, row_kept, row_taken}
use Rattle.nra_core.proofs.nra.Nra.feed_row.Goals as goal
use Rattle.nra_core.specs.Place.{need_at}

pub returns-in_err-test_room-clause-run : goal.returns-in_err-test_room-clause-run
returns-in_err-test_room-clause-run c =
    let a = c.self.inside in
    subst MakesItsRun c.self.view_is (kept_makes a.base a.late a.place c.self.invariant.kept)

pub tell-requires-clause-can : goal.tell-requires-clause-can
tell-requires-clause-can c =
    let a = c.self.inside in
    can_row a.base a.late a.place c.args.row c.self.invariant.kept (may_row a.base (need_at a.place) c.args.self.now c.args.row c.self.view_is c.requires) c.in_ok-test_room.ensures.fits

pub note-requires-clause-before : goal.note-requires-clause-before
note-requires-clause-before c =
    let a = c.self.inside in
    (ready a.base c.tell.new.self a.late a.items.items a.items.cap a.place c.args.row c.self.invariant (may_row a.base (need_at a.place) c.args.self.now c.args.row c.self.view_is c.requires) c.tell.ensures.told c.tell.ensures.held).was

pub follow-self-inside-requires-clause-asked : goal.follow-self-inside-requires-clause-asked
follow-self-inside-requires-clause-asked c = c.note.ensures.k ∙ c.self.invariant.kept.asked ∙ sym c.tell.ensures.told.k

pub follow-self-inside-requires-clause-in_row : goal.follow-self-inside-requires-clause-in_row
follow-self-inside-requires-clause-in_row c =
    let a = c.self.inside in
    (ready a.base c.tell.new.self a.late a.items.items a.items.cap a.place c.args.row c.self.invariant (may_row a.base (need_at a.place) c.args.self.now c.args.row c.self.view_is c.requires) c.tell.ensures.told c.tell.ensures.held).in_row

pub follow-self-inside-requires-clause-deep : goal.follow-self-inside-requires-clause-deep
follow-self-inside-requires-clause-deep c =
    let a = c.self.inside in
    (ready a.base c.tell.new.self a.late a.items.items a.items.cap a.place c.args.row c.self.invariant (may_row a.base (need_at a.place) c.args.self.now c.args.row c.self.view_is c.requires) c.tell.ensures.told c.tell.ensures.held).deep

pub invariant_of-self : goal.invariant_of-self
invariant_of-self c =
    let a = c.self.inside in
    let stands = c.self.invariant in
    record {
      kept = row_kept a.base c.tell.new.self a.late c.follow-self-inside.new.late a.place c.follow-self-inside.result c.args.row stands.kept (may_row a.base (need_at a.place) c.args.self.now c.args.row c.self.view_is c.requires) c.in_ok-test_room.ensures.fits c.tell.ensures.told
          c.tell.ensures.held.agreeing c.follow-self-inside.ensures.late c.follow-self-inside.ensures.asked c.follow-self-inside.ensures.place;
      reserved = c.tell.ensures.reserved;
      bounded = omega (arith, stands.bounded, c.tell.ensures.told.room, c.note.ensures.room, c.follow-self-inside.ensures.room);
      none = stands.none;
      roomy = omega (arith, stands.roomy, c.tell.ensures.told.room);
    }

pub returns-clause-fed : goal.returns-clause-fed
returns-clause-fed c =
    let a = c.self.inside in
    row_taken a.base c.tell.new.self a.place c.follow-self-inside.result c.args.row c.args.self.now c.self.view_is (may_row a.base (need_at a.place) c.args.self.now c.args.row c.self.view_is c.requires) c.in_ok-test_room.ensures.fits c.tell.ensures.told

pub returns-clause-run : goal.returns-clause-run
returns-clause-run c = kept_makes c.tell.new.self c.follow-self-inside.new.late c.follow-self-inside.result (invariant_of-self c).kept

pub test_room-requires : goal.test_room-requires
test_room-requires c = c.self.invariant.kept.base

pub tell-requires-clause-held : goal.tell-requires-clause-held
tell-requires-clause-held c = c.self.invariant.kept.base

pub tell-requires-clause-reserved : goal.tell-requires-clause-reserved
tell-requires-clause-reserved c = c.self.invariant.reserved

pub note-requires-clause-lists : goal.note-requires-clause-lists
note-requires-clause-lists c = c.tell.ensures.held.posed.lists

pub note-requires-clause-agrees : goal.note-requires-clause-agrees
note-requires-clause-agrees c = c.tell.ensures.held.agreeing

pub follow-self-inside-requires-clause-held : goal.follow-self-inside-requires-clause-held
follow-self-inside-requires-clause-held c = c.tell.ensures.held

pub follow-self-inside-requires-clause-late : goal.follow-self-inside-requires-clause-late
follow-self-inside-requires-clause-late c = c.note.ensures.kept

pub returns-in_err-test_room-clause-fed : goal.returns-in_err-test_room-clause-fed
returns-in_err-test_room-clause-fed c =
    let a = c.self.inside in
    let p = err_from_is_err_and c.from_residual.result c.from_residual.ensures.1 in
    rw (p.1, p.2) (no_room (Unit {0}) c.args.row a.base (need_at a.place) c.args.self.now _ c.self.view_is c.in_err-test_room.ensures.full)
