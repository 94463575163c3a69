use Rattle.std.proofs.Common.{ap, refl}
use Rattle.fetcher.proofs.SlotTableLaws.{keep_opened}
use Rattle.fetcher.proofs.slot_table.SlotTable.open.Goals as goal

pub open-requires-clause-keep : goal.open-requires-clause-keep
open-requires-clause-keep g c κs within =
    keep_opened g.S.Source.list g.S.Source.counts g.S.Source.calls g.S.Source.at_hand g.S.Source.states _ c.args.pool.now c.args.page c.args.ahead c.args.slots.now.items
    c.of.ensures refl refl (ap (λ v. v.items) c.of-2.ensures) c.requires.fresh
