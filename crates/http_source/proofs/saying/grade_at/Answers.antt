use Rattle.std.proofs.Common.{refl}
use Rattle.http_source.proofs.saying.grade_at.Goals as goal

pub returns-then-said-at_hand-clause-says : goal.returns-then-said-at_hand-clause-says
returns-then-said-at_hand-clause-says c = (refl, c.if-said-at_hand.true, c.args.said.body, refl)
