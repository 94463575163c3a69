use Rattle.monotone_fn.specs.Value.{value}
use Rattle.fa_core.proofs.Scoring.{valued_distinct}
use Rattle.fa_core.proofs.answering.first_items.Goals as goal

pub ranked-first-requires : goal.ranked-first-requires
ranked-first-requires c = valued_distinct (value c.args.expr.now) c.args.transcript.now.lists c.args.transcript.now.accesses c.collect.new.items.items c.collect.ensures.items
