use Rattle.topk_theory.specs.Bounds.{known_grade}
use Rattle.access_log.proofs.Readers.{as_many, low_answer}
use Rattle.access_log.proofs.transcript.Transcript.low.Goals as goal

pub eval_low-requires-clause-lists : goal.eval_low-requires-clause-lists
eval_low-requires-clause-lists c = as_many (λ list. known_grade c.args.self.now.accesses c.args.object list) c.args.self.now.lists _ c.known.result.now c.known.ensures.known c.requires

pub returns : goal.returns
returns c = low_answer c.args.expr.now c.args.self.now c.args.object c.eval_low.result c.known.result.now c.known.ensures.known c.eval_low.ensures.value
