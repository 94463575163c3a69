use Rattle.std.proofs.Common.{◌≡◌, ◌<◌, ◌++◌, ◌∷◌, [], length, ap, arith}
use Rattle.std.proofs.lemmas.List.{length_push}
use Rattle.source_pool.proofs.Fronts.{popped}
use Rattle.source_pool.specs.Remembering.{nothing}
use Rattle.source_pool.proofs.RememberLaws.{last_same, rest_same}
use Rattle.source_pool.proofs.Walks.{split_step}
use Rattle.source_pool.proofs.sharing.split_all.Goals as goal

pub loop-place-preserved : goal.loop-place-preserved
loop-place-preserved c =
    let within : c.loop-place.place < length c.args.holds.now.items = omega (arith, c.loop-place-test.true, c.requires.own.size) in
    record {
      split = split_step c.loop-place.place c.args.holds.now.items c.loop-place.holds.items c.loop-place.given.items c.push_reserved.new.self.items c.index_mut.result.now
          c.split_one-new.new.hold c.split_one-new.result c.loop-place.invariant.split within c.index_mut.ensures.value c.split_one-new.ensures.kept c.split_one-new.ensures.given
          c.push_reserved.ensures.items;
      room = omega (arith, c.push_reserved.ensures.capacity, c.loop-place.invariant.room);
      left =
          let size : length c.loop-place.made.items ≡ length (c.pop.new.self.items ++ c.unwrap-remembered.result ∷ []) = ap length (popped _ _ _ _ c.pop.ensures.items c.unwrap-remembered.ensures) in
          omega (arith, size, length_push c.pop.new.self.items c.unwrap-remembered.result, c.loop-place.invariant.left, c.pop.new.self.ok.0, c.loop-place.made.ok.0);
      empty = rest_same nothing _ _ _ (popped _ _ _ _ c.pop.ensures.items c.unwrap-remembered.ensures) c.loop-place.invariant.empty;
    }

pub split_one-new-requires-clause-empty : goal.split_one-new-requires-clause-empty
split_one-new-requires-clause-empty c = last_same nothing _ _ _ (popped _ _ _ _ c.pop.ensures.items c.unwrap-remembered.ensures) c.loop-place.invariant.empty
