use Rattle.fetcher.specs.declared.slot.Slot.{Slot}
use Rattle.fetcher.specs.Metering.{nothing}
use Rattle.test_mem_source.specs.declared.source_in_memory.MemSource.{MemSource}
use Rattle.workers.specs.Sides.{HasFeeder}
use Rattle.std.proofs.Common.{◌≡◌}
use Rattle.test_server.proofs.PairLaws.{all_two}
use Rattle.test_server.proofs.server_visits.two_slots.Goals as goal

pub returns-clause-feeders : goal.returns-clause-feeders
returns-clause-feeders c =
    all_two (λ (slot : Slot MemSource). HasFeeder c.args.pool.now slot.feeder) c.slot_of.result c.slot_of-2.result c.in-Ok.slots.items c.in-Ok.ensures.items
    c.slot_of.ensures.feeder c.slot_of-2.ensures.feeder

pub returns-clause-fresh : goal.returns-clause-fresh
returns-clause-fresh c =
    all_two (λ (slot : Slot MemSource). slot.fetched ≡ nothing) c.slot_of.result c.slot_of-2.result c.in-Ok.slots.items c.in-Ok.ensures.items
    c.slot_of.ensures.fresh c.slot_of-2.ensures.fresh
