use Rattle.nra_core.proofs.Shown.{quiet_same}
use Rattle.nra_core.proofs.laws.a_transcript_shows_that_it_is_quiet.Goals as goal

pub returns : goal.returns
returns c = quiet_same
