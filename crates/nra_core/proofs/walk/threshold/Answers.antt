use Rattle.std.proofs.Common.{◌∙◌}
use Rattle.topk_theory.specs.Transcript.{bottom_of}
use Rattle.nra_core.proofs.Bottoms.{one_each}
use Rattle.nra_core.proofs.walk.threshold.Goals as goal

pub eval-requires-clause-lists : goal.eval-requires-clause-lists
eval-requires-clause-lists c = one_each (λ list. bottom_of list c.args.transcript.now.accesses) c.bottoms.result.now c.args.transcript.now.lists c.bottoms.ensures.bottoms ∙ c.requires.lists
