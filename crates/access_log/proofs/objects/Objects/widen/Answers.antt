use Rattle.std.proofs.Common.{refl, ap, arith}
use Rattle.containers.specs.Keys.{Keys}
use Rattle.access_log.proofs.AheadKept.{room_wider, wider_same}
use Rattle.access_log.proofs.ObjectsKept.{objects_wider}
use Rattle.access_log.proofs.objects.Objects.widen.Goals as goal

pub returns-in_err-reserve-clause-kept : goal.returns-in_err-reserve-clause-kept
returns-in_err-reserve-clause-kept c = λ m A h. objects_wider m A c.args.self.now _ c.in_ok-widen.ensures.keys c.reserve.ensures.items refl (wider_same c.args.self.now.ahead.heaps.items) h

pub returns-in_err-reserve-2-clause-kept : goal.returns-in_err-reserve-2-clause-kept
returns-in_err-reserve-2-clause-kept c = λ m A h. objects_wider m A c.args.self.now _ c.in_ok-widen.ensures.keys c.reserve.ensures.items c.reserve-then-room-self.ensures.items (wider_same c.args.self.now.ahead.heaps.items) h

pub returns-in_err-widen-2-clause-kept : goal.returns-in_err-widen-2-clause-kept
returns-in_err-widen-2-clause-kept c = λ m A h. objects_wider m A c.args.self.now _ c.in_ok-widen.ensures.keys c.reserve.ensures.items c.reserve-then-room-self.ensures.items c.widen-then-room-self.ensures.wider h

pub returns-in_ok-widen-2-clause-kept : goal.returns-in_ok-widen-2-clause-kept
returns-in_ok-widen-2-clause-kept c = λ m A h. objects_wider m A c.args.self.now _ c.in_ok-widen.ensures.keys c.reserve.ensures.items c.reserve-then-room-self.ensures.items c.widen-then-room-self.ensures.wider h

pub returns-in_err-widen-clause-kept : goal.returns-in_err-widen-clause-kept
returns-in_err-widen-clause-kept c = λ m A h. objects_wider m A c.args.self.now _ (ap (λ (names : Keys). names.keys) c.in_err-widen.ensures.err) refl refl (wider_same c.args.self.now.ahead.heaps.items) h

pub returns-in_err-widen-clause-room : goal.returns-in_err-widen-clause-room
returns-in_err-widen-clause-room c =
    let had = c.requires.room in
    record {
      few = had.few;
      names = omega (arith, had.names, ap (λ (names : Keys). names.room) c.in_err-widen.ensures.err);
      records = had.records;
      sights = had.sights;
      ahead = had.ahead;
    }

pub returns-in_err-reserve-clause-room : goal.returns-in_err-reserve-clause-room
returns-in_err-reserve-clause-room c =
    let had = c.requires.room in
    record {
      few = had.few;
      names = omega (arith, had.names, c.in_ok-widen.ensures.no_less);
      records = omega (arith, had.records, c.reserve.ensures.capacity);
      sights = had.sights;
      ahead = had.ahead;
    }

pub returns-in_err-reserve-2-clause-room : goal.returns-in_err-reserve-2-clause-room
returns-in_err-reserve-2-clause-room c =
    let had = c.requires.room in
    record {
      few = had.few;
      names = omega (arith, had.names, c.in_ok-widen.ensures.no_less);
      records = omega (arith, had.records, c.reserve.ensures.capacity);
      sights = omega (arith, had.sights, c.reserve-then-room-self.ensures.capacity);
      ahead = had.ahead;
    }

pub returns-in_err-widen-2-clause-room : goal.returns-in_err-widen-2-clause-room
returns-in_err-widen-2-clause-room c =
    let old = c.args.self.now in
    let had = c.requires.room in
    record {
      few = had.few;
      names = omega (arith, had.names, c.in_ok-widen.ensures.no_less);
      records = omega (arith, had.records, c.reserve.ensures.capacity);
      sights = omega (arith, had.sights, c.reserve-then-room-self.ensures.capacity);
      ahead = room_wider old.room old.ahead.heaps.items _ c.widen-then-room-self.ensures.wider had.ahead;
    }

pub returns-in_ok-widen-2-clause-room : goal.returns-in_ok-widen-2-clause-room
returns-in_ok-widen-2-clause-room c = record {
  few = c.requires.few;
  names = c.in_ok-widen.ensures.at_least;
  records = omega (arith, c.in_ok-reserve.ensures.ok, c.missing.ensures, c.len.ensures);
  sights = omega (arith, c.in_ok-reserve-2.ensures.ok, c.missing-then-room-self.ensures, c.len-then-room-self.ensures);
  ahead = c.in_ok-widen-2.ensures.room;
}
