use Rattle.query_admission.proofs.admission.admit.Goals as goal

pub returns : goal.returns
returns g c = c.admit_read.ensures c.args.line c.args.bytes.now c.in-Ok.ensures
