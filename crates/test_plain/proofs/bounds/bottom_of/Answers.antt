use Rattle.std.proofs.Common.{rules}
use Rattle.test_plain.proofs.Scanning.{bottom_of_folded}
use Rattle.test_plain.proofs.bounds.bottom_of.Goals as goal

pub returns : goal.returns
returns c = rw bottom_of_folded (search rules)
