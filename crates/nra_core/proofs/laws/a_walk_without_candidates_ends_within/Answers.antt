use Rattle.nra_core.proofs.Candidates.{within_candidates}
use Rattle.nra_core.proofs.laws.a_walk_without_candidates_ends_within.Goals as goal

pub returns : goal.returns
returns c = within_candidates
