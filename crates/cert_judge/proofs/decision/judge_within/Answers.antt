use Rattle.monotone_fn.specs.Value.{value}
use Rattle.cert_judge.proofs.TellingTables.{size_fault}
use Rattle.cert_judge.proofs.decision.judge_within.Goals as goal

pub returns-in-Some : goal.returns-in-Some
returns-in-Some c = c.in-Some.ensures.guess

pub judge_seen-verdict-requires-clause-sized : goal.judge_seen-verdict-requires-clause-sized
judge_seen-verdict-requires-clause-sized c = c.in-Ok.ensures.1

pub returns-in-Err : goal.returns-in-Err
returns-in-Err c = size_fault (value c.args.expr.now) c.args.k c.args.transcript.now c.args.answer.now c.in-Err.fault c.in_default.ensures.guess c.in-Err.ensures
