use Rattle.std.proofs.Common.{rules}
use Rattle.batch_run.proofs.GatherLaws.{gathered_all}
use Rattle.batch_run.proofs.finish.gather.Goals as goal

pub returns-clause-all : goal.returns-clause-all
returns-clause-all c = gathered_all c.loop-place.endings.items c.loop-place.places.items c.args.places.items c.loop-place.invariant.same (search rules)
