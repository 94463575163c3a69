use Rattle.std.proofs.Common.{Err, ap, sym, subst}
use Rattle.std.specs.Global.{Vec}
use Rattle.ranked_list.specs.declared.row.Row.{Row}
use Rattle.source_api.specs.declared.source.Trouble.{Trouble}
use Rattle.page_json.specs.Bodies.{IsPageBody}
use Rattle.http_source.specs.Answers.{PageBy}
use Rattle.http_source.specs.Asking.{IsNoFault}
use Rattle.http_source.proofs.BodyLaws.{page_from, page_fault, fault_calm}
use Rattle.http_source.proofs.saying.page_said.Goals as goal

pub returns-in-Ok-clause-says : goal.returns-in-Ok-clause-says
returns-in-Ok-clause-says c = page_from c.args.body.now (record { version = c.in-Ok.said.version; body = c.in-Ok.said.body.items }) c.args.at_hand c.args.count c.page_at.result c.in-Ok.ensures.read c.page_at.ensures.says

pub returns-in-Err-clause-says : goal.returns-in-Err-clause-says
returns-in-Err-clause-says c =
    subst (λ (why : Trouble). PageBy (IsPageBody c.args.body.now) c.args.at_hand c.args.count (Err why)) (sym c.trouble_in.ensures)
    (page_fault c.args.body.now c.args.at_hand c.args.count c.in-Err.fault (λ is. c.in-Err.ensures.refused (ap Err is)))

pub returns-in-Err-clause-calm : goal.returns-in-Err-clause-calm
returns-in-Err-clause-calm c = subst (λ (why : Trouble). IsNoFault {T = Vec Row} (Err why)) (sym c.trouble_in.ensures) (fault_calm (Vec Row) c.in-Err.fault)
