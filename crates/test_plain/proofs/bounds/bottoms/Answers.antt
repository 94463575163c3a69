use Rattle.std.proofs.Common.{◌∙◌, length-set, arith}
use Rattle.topk_theory.specs.Transcript.{bottom_of}
use Rattle.test_plain.proofs.Scanning.{listed_more}
use Rattle.test_plain.proofs.bounds.bottoms.Goals as goal

pub loop-list-preserved : goal.loop-list-preserved
loop-list-preserved c = (
  length-set c.loop-list.bottoms c.loop-list.list c.bottom_of.result ∙ c.loop-list.invariant.0,
  listed_more (λ list. bottom_of list c.args.accesses.now) c.loop-list.bottoms c.loop-list.list c.bottom_of.result (omega arith) c.bottom_of.ensures c.loop-list.invariant.1,
)
