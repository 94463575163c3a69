use Rattle.machine_base.proofs.Joining.{halved_none, joined_none}
use Rattle.machine_base.proofs.ranking.Ranking.make.Goals as goal

pub returns-clause-empty : goal.returns-clause-empty
returns-clause-empty c = joined_none c.args.room c.in-Ok.top c.in-Ok-make.rest c.in-Ok.ensures c.in-Ok-make.ensures

pub returns-clause-halved : goal.returns-clause-halved
returns-clause-halved c = halved_none c.args.k c.args.room c.in-Ok.top c.in-Ok-make.rest c.requires.positive c.in-Ok.ensures c.in-Ok-make.ensures
