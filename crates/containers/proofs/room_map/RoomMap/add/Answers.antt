use Rattle.std.proofs.Common.{◌≡◌, ◌<◌, ℕ, length, Contains, sym, subst, arith}
use Rattle.containers.specs.Values.{IsSet}
use Rattle.containers.specs.Keys.{Keys}
use Rattle.containers.proofs.Fitting.{kept_more}
use Rattle.containers.proofs.room_map.RoomMap.add.Goals as goal

pub invariant_of-self : goal.invariant_of-self
invariant_of-self c =
    let inside = c.self.inside in
    let absent = λ (there : Contains inside.keys.items c.args.key). c.requires.absent (subst (λ (map : Keys). Contains map.keys c.args.key) c.self.view_is there) in
    let fits = subst (λ (map : Keys). length map.keys < map.room) (sym c.self.view_is) c.requires.room in
    let len = inside.keys.ok.0 in
    let last : c.len-place.result ≡ length inside.keys.items = omega (arith, c.len-place.ensures) in
    let set = subst (λ (place : ℕ). IsSet inside.places c.put_place.new.places c.args.key place) last c.put_place.ensures.set in
    kept_more inside.room c.args.key inside.keys.items c.push_reserved.new.self.items _ _ inside.places c.put_place.new.places c.self.invariant absent fits c.push_reserved.ensures.items (omega (arith, c.push_reserved.ensures.capacity)) set c.put_place.ensures.spare
