use Rattle.std.proofs.Common.{Err, ap, sym, subst, ℕ}
use Rattle.source_api.specs.declared.source.Trouble.{Trouble}
use Rattle.page_json.specs.Bodies.{IsSizeBody}
use Rattle.http_source.specs.Answers.{SizeBy}
use Rattle.http_source.specs.Asking.{IsNoFault}
use Rattle.http_source.proofs.BodyLaws.{size_fault, fault_calm}
use Rattle.http_source.proofs.saying.size_said.Goals as goal

pub returns-in-Err-clause-says : goal.returns-in-Err-clause-says
returns-in-Err-clause-says c =
    subst (λ (why : Trouble). SizeBy (IsSizeBody c.args.body.now) c.args.at_hand.now (Err why)) (sym c.trouble_in.ensures)
    (size_fault c.args.body.now c.args.at_hand.now c.in-Err.fault (λ is. c.in-Err.ensures.refused (ap Err is)))

pub returns-in-Err-clause-calm : goal.returns-in-Err-clause-calm
returns-in-Err-clause-calm c = subst (λ (why : Trouble). IsNoFault {T = ℕ} (Err why)) (sym c.trouble_in.ensures) (fault_calm ℕ c.in-Err.fault)
