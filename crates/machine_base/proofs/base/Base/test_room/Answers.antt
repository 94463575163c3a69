use Rattle.std.proofs.Common.{inl, inr, arith}
use Rattle.machine_base.proofs.RoomTest.{tells_new, none_fits, no_room_by}
use Rattle.machine_base.proofs.base.Base.test_room.Goals as goal
use Rattle.machine_base.proofs.base.Base.test_room.Goals.{else-is_new-via-then-is_new+else-seen-self, else-is_new-via-else-is_new}

pub returns-then-seen-self-clause-full : goal.returns-then-seen-self-clause-full
returns-then-seen-self-clause-full c =
    let base = c.args.self.now in
    no_room_by c.args.object _ base c.of_room.result c.requires
    (none_fits base.transcript.accesses c.args.object base.room c.is_seen-is_new.result c.is_seen-is_new.ensures c.if-is_new.true (omega arith))
    c.of_room.ensures (omega arith)

pub returns-clause-new : goal.returns-clause-new
returns-clause-new c = tells_new c.args.self.now.transcript.accesses c.args.object c.is_seen-is_new.result c.is_seen-is_new.ensures

pub returns-clause-fits : goal.returns-clause-fits
returns-clause-fits c =
    elim c.else-is_new.branch [
      | else-is_new-via-then-is_new+else-seen-self w ↦ inr (omega arith)
      | else-is_new-via-else-is_new w ↦ inl (c.is_seen-is_new.ensures.0 w.if-is_new.false)
    ]
