use Rattle.test_query_support.proofs.Readiness.{have_all}
use Rattle.test_query_support.proofs.desk.close_by.Goals as goal

pub close-states-requires-clause-whole : goal.close-states-requires-clause-whole
close-states-requires-clause-whole c = have_all c.args.pool c.args.pass c.args.late c.join.new.pass c.args.feeders c.requires.one c.join.ensures.joined c.requires.parts
