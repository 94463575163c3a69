use Rattle.std.proofs.Common.{ap, sym, ◌∙◌, rules}
use Rattle.std.specs.Prelude.{option_and_then}
use Rattle.serde_json.specs.View.{items_view}
use Rattle.page_json.specs.Bodies.{few, rows_of, list_of}
use Rattle.page_json.proofs.Loops.{too_many, not_too_many}
use Rattle.page_json.proofs.page.list_in.Goals as goal

pub returns-then-len : goal.returns-then-len
returns-then-len c =
    sym (too_many c.in_ok-list.list.now.items (search rules)) ∙ ap (λ items. option_and_then rows_of (option_and_then few items)) c.in_ok-list.ensures ∙ ap (option_and_then list_of) c.in_ok-get.ensures

pub returns : goal.returns
returns c =
    ap (λ values. rows_of (items_view values)) c.as_slice.ensures.value ∙ sym (not_too_many c.in_ok-list.list.now.items (search rules))
    ∙ ap (λ items. option_and_then rows_of (option_and_then few items)) c.in_ok-list.ensures ∙ ap (option_and_then list_of) c.in_ok-get.ensures
