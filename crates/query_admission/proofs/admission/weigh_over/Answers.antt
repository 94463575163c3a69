use Rattle.query_admission.proofs.Admitting.{fits_weighed}
use Rattle.query_admission.proofs.admission.weigh_over.Goals as goal

pub returns-in-Ok : goal.returns-in-Ok
returns-in-Ok c = λ view listed. fits_weighed view c.args.query.now c.args.known.now c.in-Ok.count c.fits.result listed c.in-Ok.ensures c.fits.ensures
