use Rattle.std.proofs.Common.{◌≡◌, length, arith}
use Rattle.std.proofs.Math.Nat.{le_refl}
use Rattle.containers.proofs.Fitting.{kept_wider, no_less}
use Rattle.containers.proofs.room_map.RoomMap.widen.Goals as goal

pub invariant_of-self-then-room-self : goal.invariant_of-self-then-room-self
invariant_of-self-then-room-self c =
    let inside = c.self.inside in
    let kept = c.self.invariant in
    let len : c.len.result ≡ length inside.keys.items = omega (arith, c.len.ensures, inside.keys.ok.0) in
    kept_wider inside.room c.args.room inside.keys.items c.reserve.new.self.items _ _ inside.places c.reserve-then-room-self.new.self c.widen.new.self kept c.requires c.if-room-self.true
    c.reserve.ensures.items (omega (arith, c.in_ok-reserve.ensures.ok, c.len.ensures, len, kept.within, c.if-room-self.true))
    (omega (arith, c.in_ok-reserve-2.ensures.ok, c.widen.ensures.spare, len, kept.within, c.if-room-self.true)) c.reserve-then-room-self.ensures.same c.widen.ensures.same

pub returns-in_ok-widen-clause-at_least : goal.returns-in_ok-widen-clause-at_least
returns-in_ok-widen-clause-at_least c = le_refl c.args.room

pub returns-in_ok-widen-clause-no_less : goal.returns-in_ok-widen-clause-no_less
returns-in_ok-widen-clause-no_less c = no_less c.args.self.now c.self.inside.room c.args.room c.self.inside.keys.items c.self.view_is c.if-room-self.true
