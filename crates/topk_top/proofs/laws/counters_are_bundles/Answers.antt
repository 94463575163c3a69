use Rattle.topk_top.proofs.Counters.{counters_bundle}
use Rattle.topk_top.proofs.laws.counters_are_bundles.Goals as goal

pub returns : goal.returns
returns c = counters_bundle
