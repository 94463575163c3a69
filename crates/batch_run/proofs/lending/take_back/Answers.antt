use Rattle.std.proofs.Common.{◌+◌, slice_set, ap, arith, subst, sym, ◌∙◌}
use Rattle.fetcher.specs.declared.slot.Slot.{Slot}
use Rattle.batch_run.proofs.LendLaws.{BackTo, back_all, back_empty, back_more}
use Rattle.batch_run.proofs.lending.take_back.Goals as goal

pub loop-place-preserved : goal.loop-place-preserved
loop-place-preserved g c = record {
  back = subst
      (λ (slot : Slot g.row.S.Denot). BackTo g.S.Source.list g.S.Source.counts g.S.Source.calls g.S.Source.at_hand (c.loop-place.place + 1) c.args.slots.now.items
      (slice_set c.loop-place.slots.items c.loop-place.place (record slot { feeder = c.take.new.self })) c.push_reserved.new.self.items) (sym c.index_mut.ensures.value)
      (back_more g.S.Source.list g.S.Source.counts g.S.Source.calls g.S.Source.at_hand c.loop-place.place c.args.slots.now.items c.loop-place.slots.items c.loop-place.feeders.items c.push_reserved.new.self.items
      c.unwrap-feeder.result c.take.result c.take.new.self c.index_mut.result.now
      (c.take.ensures.value ∙ ap (λ (slot : Slot g.row.S.Denot). slot.feeder) c.index_mut.ensures.value)
      (omega (arith, c.loop-place-test.true, c.loop-place.slots.ok.0, c.len-place-end.ensures)) c.unwrap-feeder.ensures
      c.take.ensures.after c.push_reserved.ensures.items c.loop-place.invariant.back);
  room = omega (arith, c.loop-place.invariant.room, c.push_reserved.ensures.capacity);
}

pub returns-clause-back : goal.returns-clause-back
returns-clause-back g c =
    back_all g.S.Source.list g.S.Source.counts g.S.Source.calls g.S.Source.at_hand c.loop-place.place c.args.slots.now.items c.loop-place.slots.items c.loop-place.feeders.items
    (omega (arith, c.loop-place-test.false, c.len-place-end.ensures, c.args.slots.now.ok.0))
    (omega (arith, c.loop-place.auto.place-end, c.len-place-end.ensures, c.args.slots.now.ok.0)) c.loop-place.invariant.back

pub returns-clause-empty : goal.returns-clause-empty
returns-clause-empty g c =
    back_empty g.S.Source.list g.S.Source.counts g.S.Source.calls g.S.Source.at_hand c.loop-place.place c.args.slots.now.items c.loop-place.slots.items c.loop-place.feeders.items
    (omega (arith, c.loop-place-test.false, c.len-place-end.ensures, c.args.slots.now.ok.0))
    c.loop-place.invariant.back
