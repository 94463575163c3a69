use Rattle.std.proofs.Common.{◌*◌, refl, ap₂}
use Rattle.machine_base.proofs.Begins.{room_reserved}
use Rattle.machine_base.proofs.base.reserved_transcript.Goals as goal

pub returns-in-Ok : goal.returns-in-Ok
returns-in-Ok c =
    room_reserved c.args.lists c.args.count c.args.room c.args.room _ _ c.reserve.new.self c.in_ok-transcript.ensures c.in-Ok.ensures.ok refl (ap₂ (λ a b. 2 * (a * b)) c.from.ensures c.from-2.ensures)
