use Rattle.std.proofs.Common.{sym, subst}
use Rattle.query_text.specs.Query.{IsLawful}
use Rattle.made_inputs.proofs.Lawful.{made_lawful, same_query}
use Rattle.made_inputs.proofs.query.made_query.Goals as goal

pub returns-clause-made : goal.returns-clause-made
returns-clause-made c =
    same_query c.args.number c.args.count c.args.lists c.min.result c.in_ok-names.names c.in-Ok.expr c.made_algorithm.result c.min.ensures c.in_ok-names.ensures c.in-Ok.ensures c.made_algorithm.ensures

pub returns-clause-lawful : goal.returns-clause-lawful
returns-clause-lawful c =
    subst IsLawful (sym (same_query c.args.number c.args.count c.args.lists c.min.result c.in_ok-names.names c.in-Ok.expr c.made_algorithm.result c.min.ensures c.in_ok-names.ensures c.in-Ok.ensures c.made_algorithm.ensures))
    (made_lawful c.args.number c.args.count c.args.lists c.requires.objects c.requires.some c.requires.few)
