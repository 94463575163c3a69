use Rattle.test_query_support.proofs.Pairing.{first_idle, second_idle}
use Rattle.test_server.proofs.Answering.{may_answer}
use Rattle.test_server.proofs.desk.opened_may_answer.Goals as goal

pub returns-clause-may : goal.returns-clause-may
returns-clause-may c = may_answer c.args.lists.now c.args.pair.now c.requires.lists c.requires.pair

pub returns-clause-first : goal.returns-clause-first
returns-clause-first c = first_idle 3 c.args.pair.now c.requires.pair

pub returns-clause-second : goal.returns-clause-second
returns-clause-second c = second_idle 3 c.args.pair.now c.requires.pair
