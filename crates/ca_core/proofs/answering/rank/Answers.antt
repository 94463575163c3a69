use Rattle.monotone_fn.specs.Value.{value}
use Rattle.ca_core.proofs.Scoring.{valued_distinct}
use Rattle.ca_core.proofs.answering.rank.Goals as goal

pub put_in_order-requires : goal.put_in_order-requires
put_in_order-requires c =
    valued_distinct (value c.args.expr.now) c.args.transcript.now.lists c.args.transcript.now.accesses c.args.items.now c.score.new.items c.requires.apart c.score.ensures
