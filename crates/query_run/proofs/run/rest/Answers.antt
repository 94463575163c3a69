use Rattle.std.proofs.Common.{refl}
use Rattle.query_run.proofs.run.rest.Goals as goal

pub returns : goal.returns
returns g c = c.requires.stays.leaves c.args.seen _ _ refl c.serve.ensures
