use Rattle.std.proofs.Common.{◌∙◌}
use Rattle.fetcher.proofs.SlotTableLaws.{kept_served}
use Rattle.fetcher.proofs.slot_table.SlotTable.close.Goals as goal

pub returns : goal.returns
returns g c =
    kept_served g.S.Source.list g.S.Source.counts g.S.Source.calls g.S.Source.at_hand g.S.Source.states c.args.self.lock.key c.close.new.values.items
    (c.close.ensures.size ∙ c.requires.size) c.close.ensures.keep
