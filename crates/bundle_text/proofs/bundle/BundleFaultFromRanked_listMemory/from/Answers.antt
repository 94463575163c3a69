use Rattle.std.proofs.Common.{refl}
use Rattle.bundle_text.proofs.bundle.BundleFaultFromRanked_listMemory.from.Goals as goal

pub returns : goal.returns
returns c = refl
