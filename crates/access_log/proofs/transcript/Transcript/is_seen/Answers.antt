use Rattle.topk_theory.specs.Transcript.{seen_objects}
use Rattle.access_log.proofs.Readers.{seen_answer}
use Rattle.access_log.proofs.transcript.Transcript.is_seen.Goals as goal

pub returns : goal.returns
returns c = seen_answer c.is_some.result c.sight_of.result (seen_objects c.args.self.now.accesses) c.args.object c.sight_of.ensures c.is_some.ensures
