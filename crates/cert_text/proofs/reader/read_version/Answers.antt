use Rattle.std.proofs.Common.{refl, inr}
use Rattle.cert_text.proofs.VersionLaws.{none_left}
use Rattle.cert_text.proofs.reader.read_version.Goals as goal

pub returns-in_default-clause-states : goal.returns-in_default-clause-states
returns-in_default-clause-states c = inr (none_left c.args.name.now c.args.text.now c.in_default.ensures, refl, refl, refl)
