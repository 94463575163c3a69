use Rattle.std.proofs.Common.{sym, ap, ◌∙◌, subst}
use Rattle.cert_text.specs.Outcome.{outcome_text, IsOutcome}
use Rattle.command_line.proofs.Ending.{said, said_as}
use Rattle.bundle_calls.proofs.answering.write_line.Goals as goal

pub returns-clause-says : goal.returns-clause-says
returns-clause-says g c =
    let line = c.args.line.now in
    said_as _ _ _ _ _ _ c.outcome_status-status.result _ _ (ap (λ query. outcome_text 1 query line.count c.as_slice.result.now line.outcome) c.as_ref-query.ensures.value
    ∙ ap (λ versions. outcome_text 1 line.query line.count versions line.outcome) c.as_slice.ensures) c.outcome_status-status.ensures
    (said _ _ _ _ _ c.outcome_status-status.result c.ended.result c.write_outcome-written.result c.write_outcome-written.ensures.whole c.write_outcome-written.ensures.front c.write_outcome-written.ensures.cause c.ended.ensures)

pub write_outcome-written-requires : goal.write_outcome-written-requires
write_outcome-written-requires g c =
    let line = c.args.line.now in
    subst (λ query. IsOutcome query c.as_slice.result.now line.outcome) (sym c.as_ref-query.ensures.value)
    (subst (λ versions. IsOutcome line.query versions line.outcome) (sym c.as_slice.ensures) c.requires)
