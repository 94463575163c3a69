use Rattle.access_log.proofs.Readers.{cost_is}
use Rattle.access_log.proofs.transcript.Transcript.cost.Goals as goal

pub returns : goal.returns
returns c =
    cost_is c.args.self.now.accesses c.args.costs.now.sorted c.args.costs.now.random c.sorted.result c.random.result c.from.result c.from-2.result
    c.sorted.ensures c.random.ensures c.from.ensures c.from-2.ensures
