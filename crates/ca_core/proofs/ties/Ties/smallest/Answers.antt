use Rattle.ca_core.proofs.AtPlaces.{smallest_found}
use Rattle.ca_core.proofs.ties.Ties.smallest.Goals as goal

pub returns : goal.returns
returns c =
    smallest_found c.args.self.now.heaps.items c.args.list c.index.result.now _ c.in_ok-top.top.key c.in_ok-top.top.rank c.requires c.index.ensures
    c.in_ok-top.ensures.greatest.there c.in_ok-top.ensures.greatest.none_above
