use Rattle.std.proofs.Common.{arith, ap, sym, ◌∙◌}
use lib.ListN.{get_elem?}
use Rattle.std.specs.Mem.Slots.{slots_filled, slots_items, slots_len}
use Rattle.keyed_lock.proofs.Places.{none_at, took_more, full_on, gone_on}
use Rattle.keyed_lock.proofs.lock.take_out.Goals as goal

pub unreachable-requires : goal.unreachable-requires
unreachable-requires g c = none_at c.requires.full.values (slots_items c.loop-place.closed.slots) c.loop-place.place c.take.result
    (c.loop-place.invariant.same.0 ∙ c.requires.full.are) c.take.ensures.value c.in-None.is

pub loop-place-preserved : goal.loop-place-preserved
loop-place-preserved g c =
    let others = c.take.ensures.others in
    record {
      full = λ k ge l. full_on (slots_filled c.loop-place.closed.slots) (slots_filled c.take.new.self.slots) c.loop-place.place
          (slots_len c.loop-place.closed.slots) others.1 c.loop-place.invariant.full k ge (let e = others.2 in omega arith);
      gone = gone_on (slots_filled c.loop-place.closed.slots) (slots_filled c.take.new.self.slots) c.loop-place.place others.1 c.loop-place.invariant.gone;
      same = (others.0 ∙ c.loop-place.invariant.same.0, others.2 ∙ c.loop-place.invariant.same.1);
      took = took_more (slots_items c.args.closed.slots) c.loop-place.place c.loop-place.room.items c.push_reserved.new.self.items c.take.result
          c.in-Some.value c.loop-place.invariant.took
          (ap (λ l. get_elem? l c.loop-place.place) (sym c.loop-place.invariant.same.0) ∙ c.take.ensures.value)
          c.in-Some.is c.push_reserved.ensures.items;
      room = let a = c.loop-place.invariant.room in let b = c.push_reserved.ensures.capacity in omega arith;
    }
