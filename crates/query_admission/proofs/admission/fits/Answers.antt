use Rattle.std.proofs.Common.{refl, sym}
use Rattle.query_admission.proofs.admission.fits.Goals as goal

pub returns : goal.returns
returns c = (refl, sym c.in-Ok.ensures, sym c.in-Ok-versions_of.ensures, sym c.in-Ok-sorted_of.ensures)
