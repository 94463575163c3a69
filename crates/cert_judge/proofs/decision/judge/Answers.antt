use Rattle.monotone_fn.specs.Value.{value}
use Rattle.cert_judge.proofs.TellingTables.{exact_judges}
use Rattle.cert_judge.proofs.decision.judge.Goals as goal

pub returns : goal.returns
returns c = exact_judges (value c.args.expr.now) c.args.k c.args.transcript.now c.args.answer.now c.judge_within.result c.judge_within.ensures
