use Rattle.std.proofs.Common.{◌∙◌}
use Rattle.monotone_fn.proofs.Summaries.{total_more}
use Rattle.monotone_fn.proofs.summary.Summary.with.Goals as goal

pub returns : goal.returns
returns c = λ ns before. record {
  least = c.least_with.ensures ns before.least;
  greatest = c.greatest_with.ensures ns before.greatest;
  total = c.saturating_add.ensures ∙ total_more ns c.args.self.total c.args.value before.total;
}
