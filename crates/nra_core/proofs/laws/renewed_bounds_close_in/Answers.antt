use Rattle.nra_core.proofs.Renewed.{next_bounds}
use Rattle.nra_core.proofs.laws.renewed_bounds_close_in.Goals as goal

pub returns : goal.returns
returns c = next_bounds
