use Rattle.topk_theory.specs.Transcript.{bottom_of}
use Rattle.topk_theory.specs.Bounds.{known_grade}
use Rattle.access_log.proofs.Readers.{as_many, high_answer}
use Rattle.access_log.proofs.transcript.Transcript.high.Goals as goal

pub eval_high-requires-clause-lists : goal.eval_high-requires-clause-lists
eval_high-requires-clause-lists c = as_many (λ list. known_grade c.args.self.now.accesses c.args.object list) c.args.self.now.lists _ c.known.result.now c.known.ensures.known c.requires

pub eval_high-requires-clause-bottoms : goal.eval_high-requires-clause-bottoms
eval_high-requires-clause-bottoms c = as_many (λ list. bottom_of list c.args.self.now.accesses) c.args.self.now.lists _ c.bottoms.result.now c.bottoms.ensures.bottoms c.requires

pub returns : goal.returns
returns c = high_answer c.args.expr.now c.args.self.now c.args.object c.eval_high.result c.known.result.now c.bottoms.result.now c.known.ensures.known c.bottoms.ensures.bottoms c.eval_high.ensures.value
