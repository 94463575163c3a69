use Rattle.std.proofs.Common.{◌≡◌, ℕ, length, refl, ap, arith}
use Rattle.topk_theory.specs.Transcript.{named_objects}
use Rattle.access_log.proofs.Pushing.{kept_moved}
use Rattle.access_log.proofs.transcript.Transcript.reserve.Goals as goal

pub invariant_of-self : goal.invariant_of-self
invariant_of-self c =
    let k = c.self.invariant in
    kept_moved c.self.inside.lists c.self.inside.count _ _ c.self.inside.spare_objects c.self.inside.spare_accesses _ _ c.self.inside.accesses.items _ c.self.inside.objects c.widen.new.self c.self.inside.ends k refl
    (c.widen.ensures.kept c.self.inside.lists c.self.inside.accesses.items k.objects) c.widen.ensures.room (omega (arith, k.object_room, c.widen.ensures.no_less)) k.access_room

pub invariant_of-self-in_err-reserve : goal.invariant_of-self-in_err-reserve
invariant_of-self-in_err-reserve c =
    let k = c.self.invariant in
    kept_moved c.self.inside.lists c.self.inside.count _ _ c.self.inside.spare_objects c.self.inside.spare_accesses _ _ c.self.inside.accesses.items c.reserve.new.self.items c.self.inside.objects c.widen.new.self c.self.inside.ends k c.reserve.ensures.items
    (c.widen.ensures.kept c.self.inside.lists c.self.inside.accesses.items k.objects) c.widen.ensures.room (omega (arith, k.object_room, c.widen.ensures.no_less)) (omega (arith, k.access_room, c.reserve.ensures.capacity))

pub invariant_of-self-2 : goal.invariant_of-self-2
invariant_of-self-2 c =
    let k = c.self.invariant in
    let named : length c.self.inside.objects.names.keys ≡ length (named_objects c.self.inside.accesses.items) = ap (length {A = ℕ}) k.objects.names in
    let long = c.self.inside.accesses.ok.0 in
    kept_moved c.self.inside.lists c.self.inside.count _ _ c.self.inside.spare_objects c.self.inside.spare_accesses _ _ c.self.inside.accesses.items c.reserve.new.self.items c.self.inside.objects c.widen.new.self c.self.inside.ends k c.reserve.ensures.items
    (c.widen.ensures.kept c.self.inside.lists c.self.inside.accesses.items k.objects) c.widen.ensures.room
    (omega (arith, k.object_room, c.widen.ensures.no_less, c.in_ok-widen.ensures.ok, c.len.ensures.len, c.max-self-inside.ensures))
    (omega (arith, k.access_room, c.reserve.ensures.capacity, c.in_ok-reserve.ensures.ok, c.reserve.ensures.len, c.max-self-inside-2.ensures))
