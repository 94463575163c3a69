use Rattle.std.proofs.Common.{slice_index_or}
use Rattle.fetcher.proofs.SlotTableLaws.{taken, given}
use Rattle.fetcher.proofs.slot_table.try_serve.Goals as goal

pub serve_turn-turned-requires-after_bounds : goal.serve_turn-turned-requires-after_bounds
serve_turn-turned-requires-after_bounds g c κs within = (
  slice_index_or c.args.table.now.lock.key.slots.value.items c.args.place c.in-Some.slot,
  taken g.S.Source.list g.S.Source.counts g.S.Source.calls g.S.Source.at_hand g.S.Source.states c.args.table.now c.args.pool.now c.args.place c.in-Some.slot c.requires.may.table_is c.in-Some.ensures.some.1 c.in-Some.slot,
)

pub give-requires-clause-value : goal.give-requires-clause-value
give-requires-clause-value g c κs within =
    given g.S.Source.list g.S.Source.counts g.S.Source.calls g.S.Source.at_hand g.S.Source.states c.args.table.now c.args.pool.now c.args.place c.serve_turn-turned.new.slot c.requires.may.table_is
    (λ d. c.serve_turn-turned.ensures (slice_index_or c.args.table.now.lock.key.slots.value.items c.args.place d)
    (taken g.S.Source.list g.S.Source.counts g.S.Source.calls g.S.Source.at_hand g.S.Source.states c.args.table.now c.args.pool.now c.args.place c.in-Some.slot c.requires.may.table_is c.in-Some.ensures.some.1 d))
