use Rattle.std.proofs.Common.{subst}
use Rattle.query_admission.specs.Causes.{QueryLine}
use Rattle.query_admission.specs.Admission.{IsReadAs}
use Rattle.query_admission.proofs.Admitting.{refused_alone}
use Rattle.query_admission.proofs.admission.admit_read.Goals as goal

pub returns-in-Refused : goal.returns-in-Refused
returns-in-Refused g c = λ number bytes read.
    let x : QueryLine = record { view = g.L.Lists.view c.args.lists.now; number = number; bytes = bytes } in
    refused_alone x c.in-Refused.refusal (subst (IsReadAs number bytes) c.in-Refused.is read x.view)

pub returns-in-Query : goal.returns-in-Query
returns-in-Query g c = λ number bytes read.
    let is = subst (IsReadAs number bytes) c.in-Query.is read in
    c.admit_query.ensures number bytes is.0 is.1

pub admit_query-requires : goal.admit_query-requires
admit_query-requires g c =
    let read = c.requires in
    let is = subst (IsReadAs read.0 read.1) c.in-Query.is read.2 in
    (read.1, is.1)
