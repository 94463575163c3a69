use Rattle.std.proofs.Common.{length, sym, ap, ◌∙◌}
use Rattle.topk_theory.specs.Transcript.{bottom_of}
use Rattle.cert_text.proofs.LeastLows.{one_for_each}
use Rattle.cert_text.proofs.early.threshold.Goals as goal

pub eval-requires-clause-lists : goal.eval-requires-clause-lists
eval-requires-clause-lists c =
    ap length c.bottoms.ensures.bottoms ∙ one_for_each (λ list. bottom_of list c.args.transcript.now.accesses) c.args.transcript.now.lists ∙ sym c.requires
