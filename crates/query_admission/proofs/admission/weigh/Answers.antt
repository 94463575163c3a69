use Rattle.std.proofs.Common.{length, subst, ap, arith}
use Rattle.query_admission.specs.Screening.{IsSought}
use Rattle.query_admission.proofs.Admitting.{listed_many}
use Rattle.query_admission.proofs.admission.weigh.Goals as goal

pub weigh_over-requires-clause-some : goal.weigh_over-requires-clause-some
weigh_over-requires-clause-some g c =
    let view = g.L.Lists.view c.args.lists.now in
    let sought = subst (IsSought view c.args.query.now.names) c.in-Ok-Known.field-0-is c.in-Ok-Known.ensures in
    omega (arith, listed_many view c.args.query.now c.in-Ok-Known.known.items sought, ap length c.deref.ensures.value, c.requires.some)

pub weigh_over-requires-clause-few : goal.weigh_over-requires-clause-few
weigh_over-requires-clause-few g c =
    let view = g.L.Lists.view c.args.lists.now in
    let sought = subst (IsSought view c.args.query.now.names) c.in-Ok-Known.field-0-is c.in-Ok-Known.ensures in
    omega (arith, listed_many view c.args.query.now c.in-Ok-Known.known.items sought, ap length c.deref.ensures.value, c.requires.few)
