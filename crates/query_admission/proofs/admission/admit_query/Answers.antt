use Rattle.std.proofs.Common.{IfOk, sym, subst, arith}
use Rattle.query_core.proofs.ListCount.{lists_counted}
use Rattle.query_admission.specs.Causes.{QueryLine}
use Rattle.query_admission.specs.Admission.{Admits}
use Rattle.query_admission.proofs.Admitting.{weighed_admits}
use Rattle.query_admission.proofs.admission.admit_query.Goals as goal

pub weigh-weighed-requires-clause-some : goal.weigh-weighed-requires-clause-some
weigh-weighed-requires-clause-some g c = omega (arith, lists_counted c.args.query c.requires.1.0.lawful, c.requires.1.1.lists.some)

pub weigh-weighed-requires-clause-few : goal.weigh-weighed-requires-clause-few
weigh-weighed-requires-clause-few g c = omega (arith, c.requires.1.0.lawful.few)

pub returns : goal.returns
returns g c = λ number bytes few reads.
    let x : QueryLine = record { view = g.L.Lists.view c.args.lists.now; number = number; bytes = bytes } in
    subst (λ admitted. IfOk admitted (Admits x)) (sym c.admitted_as.ensures) (weighed_admits x c.args.query c.weigh-weighed.result few reads c.weigh-weighed.ensures)
