use Rattle.std.proofs.Common.{◌∙◌, ℕ, length, refl, sym, ap, subst, arith}
use Rattle.machine_base.specs.declared.rank.Rank.{Rank}
use Rattle.machine_base.specs.Rank.{item_of}
use Rattle.machine_base.specs.Held.{Held, has_object}
use Rattle.ranked_list.specs.Items.{put_item}
use Rattle.machine_base.specs.Halves.{IsHalved}
use Rattle.machine_base.specs.Kept.{IsBoardKept}
use Rattle.machine_base.proofs.KeptLaws.{unplaced, places_counted, place_within, items_put, kept_put}
use Rattle.machine_base.proofs.board.Board.put.Goals as goal

pub place_for-place-requires-clause-room : goal.place_for-place-requires-clause-room
place_for-place-requires-clause-room c = λ none.
    let places = c.self.inside.places in
    let ranking = c.self.inside.ranking in
    let kept = c.self.invariant.0 in
    let fewer = c.requires (sym (ap (λ (v : Held). has_object c.args.object v.items) c.self.view_is) ∙ unplaced places ranking.k c.args.object ranking.top ranking.rest kept none) in
    let counted = places_counted places ranking.k ranking.top ranking.rest kept in
    let items = ap (λ (v : Held). length v.items) c.self.view_is in
    let room = ap (λ (v : Held). v.room) c.self.view_is in
    omega arith

pub put-requires-clause-within : goal.put-requires-clause-within
put-requires-clause-within c =
    let ranking = c.self.inside.ranking in
    let rank : Rank = record { low = c.args.low; high = c.args.high; object = c.args.object } in
    let placed = c.place_for-place.ensures in
    place_within c.self.inside.places c.place_for-place.new.places ranking.k c.args.object c.place_for-place.result rank ranking.top ranking.rest c.self.invariant.0 refl placed.fits placed.same_room placed.at placed.added

pub invariant_of-self : goal.invariant_of-self
invariant_of-self c =
    let ranking = c.self.inside.ranking in
    let after = c.put.new.self in
    let rank : Rank = record { low = c.args.low; high = c.args.high; object = c.args.object } in
    let placed = c.place_for-place.ensures in
    let halved = subst (λ (k : ℕ). IsHalved k after.top after.rest) c.put.ensures.same_k c.put.ensures.halved in
    let kept = kept_put c.self.inside.places c.place_for-place.new.places ranking.k c.args.object c.place_for-place.result rank ranking.top ranking.rest c.self.invariant.0 refl placed.fits placed.same_room placed.at placed.added after.top after.rest halved c.put.ensures.joined in
    (subst (λ (k : ℕ). IsBoardKept c.place_for-place.new.places k after.top after.rest) (sym c.put.ensures.same_k) kept, c.self.invariant.1)

pub returns : goal.returns
returns c =
    let ranking = c.self.inside.ranking in
    let after = c.put.new.self in
    let rank : Rank = record { low = c.args.low; high = c.args.high; object = c.args.object } in
    let placed = c.place_for-place.ensures in
    let items = items_put c.self.inside.places c.place_for-place.new.places ranking.k c.args.object c.place_for-place.result rank ranking.top ranking.rest c.self.invariant.0 refl placed.fits placed.same_room placed.at placed.added after.top after.rest c.put.ensures.joined in
    (λ i. record { k = c.put.ensures.same_k i; room = placed.same_room i; items = items i })
    ∙ ap (λ (v : Held). record { k = v.k; room = v.room; items = put_item (item_of rank) v.items }) c.self.view_is
