use Rattle.std.proofs.Common.{length, ap, ◌∙◌}
use Rattle.std.proofs.lemmas.List.FromFn.{length-map-range_with_len}
use Rattle.topk_theory.specs.Transcript.{bottom_of}
use Rattle.restricted_core.proofs.scoring.threshold.Goals as goal

pub eval-requires-clause-lists : goal.eval-requires-clause-lists
eval-requires-clause-lists c =
    let log = c.args.base.now.transcript in
    ap length c.bottoms.ensures.bottoms ∙ length-map-range_with_len (λ list. bottom_of list log.accesses) 0 log.lists ∙ c.requires.posed.lists
