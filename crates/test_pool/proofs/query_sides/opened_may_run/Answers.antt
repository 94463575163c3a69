use Rattle.test_query_support.proofs.Pairing.{first_idle, second_idle}
use Rattle.test_pool.proofs.Readying.{may_run}
use Rattle.test_pool.proofs.query_sides.opened_may_run.Goals as goal

pub returns-clause-may : goal.returns-clause-may
returns-clause-may c = may_run c.args.count c.args.pair.now c.args.ready.now c.requires.pair c.requires.ready

pub returns-clause-first : goal.returns-clause-first
returns-clause-first c = first_idle c.args.count c.args.pair.now c.requires.pair

pub returns-clause-second : goal.returns-clause-second
returns-clause-second c = second_idle c.args.count c.args.pair.now c.requires.pair
