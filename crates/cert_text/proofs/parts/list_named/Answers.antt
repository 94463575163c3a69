use Rattle.std.proofs.Common.{sym, ◌∙◌, rules, tests}
use Rattle.std.specs.Str.{bytes_eq}
use Rattle.std.proofs.lemmas.Iterator.Search.{position_from_yields_List}
use Rattle.query_text.proofs.NamesPassed.{names_given}
use Rattle.cert_text.proofs.parts.list_named.Goals as goal

pub returns-in_err-list : goal.returns-in_err-list
returns-in_err-list c =
    let found = position_from_yields_List (λ other. bytes_eq other c.args.name.now) _ _ c.position.result c.position.ensures.ran (names_given c.args.names.now c.iter.ensures.rest) (λ x b q k. search (rules, tests)) in
    c.from_residual.ensures ∙ sym c.in_err-list.was ∙ found

pub returns : goal.returns
returns c =
    let found = position_from_yields_List (λ other. bytes_eq other c.args.name.now) _ _ c.position.result c.position.ensures.ran (names_given c.args.names.now c.iter.ensures.rest) (λ x b q k. search (rules, tests)) in
    sym c.in_ok-list.was ∙ found
