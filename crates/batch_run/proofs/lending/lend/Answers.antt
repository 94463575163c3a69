use Rattle.std.proofs.Common.{Some, slice_set, arith, refl, subst, sym, ◌∙◌}
use Rattle.fetcher.specs.declared.slot.Slot.{Slot}
use Rattle.fetcher.specs.Metering.{nothing}
use Rattle.batch_run.proofs.LendLaws.{LentTo, lent_all, lent_more, lent_none, none_left, popped_within}
use Rattle.batch_run.proofs.lending.lend.Goals as goal

pub loop-feeder-init : goal.loop-feeder-init
loop-feeder-init g c = record {
  lent = lent_none g.S.Source.list g.S.Source.counts g.S.Source.calls g.S.Source.at_hand c.args.feeders.now.items c.args.slots.now.items (omega (arith, c.requires, c.args.feeders.now.ok.0));
  room = refl;
}

pub index_mut-slot-requires : goal.index_mut-slot-requires
index_mut-slot-requires g c =
    let there = popped_within g.S.Source.list g.S.Source.counts g.S.Source.calls g.S.Source.at_hand c.args.feeders.now.items c.loop-feeder.feeders.items c.pop.new.self.items c.in-Some.feeder
    c.args.slots.now.items c.loop-feeder.slots.items (omega (arith, c.requires, c.args.feeders.now.ok.0)) c.loop-feeder.invariant.lent c.in-Some.ensures.items in
    omega (arith, there, c.pop.new.self.ok.0, c.loop-feeder.slots.ok.0)

pub loop-feeder-preserved : goal.loop-feeder-preserved
loop-feeder-preserved g c = record {
  lent = subst (λ (slot : Slot g.row.S.Denot). LentTo g.S.Source.list g.S.Source.counts g.S.Source.calls g.S.Source.at_hand c.args.feeders.now.items c.pop.new.self.items
      c.args.slots.now.items (slice_set c.loop-feeder.slots.items c.len-place.result (record slot { feeder = Some c.in-Some.feeder; fetched = nothing }))) (sym c.index_mut-slot.ensures.value)
      (lent_more g.S.Source.list g.S.Source.counts g.S.Source.calls g.S.Source.at_hand c.args.feeders.now.items c.loop-feeder.feeders.items c.pop.new.self.items c.in-Some.feeder
      c.args.slots.now.items c.loop-feeder.slots.items c.index_mut-slot.result.now _ c.index_mut-slot.ensures.value (omega (arith, c.requires, c.args.feeders.now.ok.0))
      (omega (arith, c.pop.new.self.ok.0)) c.loop-feeder.invariant.lent c.in-Some.ensures.items);
  room = c.in-Some.ensures.capacity ∙ c.loop-feeder.invariant.room;
}

pub returns-clause-lent : goal.returns-clause-lent
returns-clause-lent g c =
    lent_all g.S.Source.list g.S.Source.counts g.S.Source.calls g.S.Source.at_hand c.args.feeders.now.items c.loop-feeder.feeders.items c.args.slots.now.items c.loop-feeder.slots.items c.loop-feeder.invariant.lent
    (none_left c.loop-feeder.feeders.items (omega (arith, c.in_default.ensures.cases.0, c.loop-feeder.feeders.ok.0)))
