use Rattle.topk_theory.proofs.CombinedLaws.{run_tame}
use Rattle.topk_theory.proofs.laws_combined.asks_for_seen_objects.Goals as goal

pub returns : goal.returns
returns c = run_tame
