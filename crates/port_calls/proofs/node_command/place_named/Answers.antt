use Rattle.std.proofs.Common.{◌∙◌, Some, None, option_map, sym, ap}
use Rattle.catalog_text.specs.Listed.{listed}
use Rattle.port_calls.proofs.NodeEnding.{named_none, named_at}
use Rattle.port_calls.proofs.node_command.place_named.Goals as goal

pub returns-in_err-place : goal.returns-in_err-place
returns-in_err-place c =
    ap (option_map (λ place. place.now)) c.from_residual.ensures
    ∙ sym (named_none c.args.name.now c.as_bytes.result.now c.args.catalog.now c.as_bytes.ensures.value (sym c.find.ensures ∙ c.in_err-place.was))

pub returns-in-Some : goal.returns-in-Some
returns-in-Some c =
    ap Some c.as_str.ensures.value
    ∙ named_at c.args.name.now c.as_bytes.result.now c.args.catalog.now c.in_ok-place.place (Some (listed c.in-Some.entry.now)) c.as_bytes.ensures.value
    (sym c.find.ensures ∙ c.in_ok-place.was) c.in-Some.ensures

pub returns-in-None : goal.returns-in-None
returns-in-None c =
    named_at c.args.name.now c.as_bytes.result.now c.args.catalog.now c.in_ok-place.place None c.as_bytes.ensures.value
    (sym c.find.ensures ∙ c.in_ok-place.was) c.in-None.ensures
