use Rattle.query_run.proofs.Ending.{ended_done, refused_ends}
use Rattle.query_run.proofs.running_query.RunningQuery.end.Goals as goal

pub answer-requires : goal.answer-requires
answer-requires c = ended_done c.args.self c.requires c.in-None.is

pub returns-in-Ok : goal.returns-in-Ok
returns-in-Ok c = record {
  unrefused = c.in-None.is;
  done = ended_done c.args.self c.requires c.in-None.is;
  items = c.in-Ok.ensures.items;
  log = c.in-Ok.ensures.transcript;
}

pub returns-in-Some : goal.returns-in-Some
returns-in-Some c = refused_ends c.args.self c.in-Some.refusal c.refused.result c.in-Some.is c.refused.ensures
