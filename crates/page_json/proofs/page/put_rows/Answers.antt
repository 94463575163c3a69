use Rattle.std.proofs.Common.{◌++◌, ◌+◌, ◌∙◌, map, slice_index_or, subst, sym, ap, refl}
use Rattle.std.specs.Prelude.{All}
use Rattle.std.specs.List.{join_with_byte}
use Rattle.std.proofs.lemmas.List.Elements.{All-cons}
use Rattle.ranked_list.specs.declared.row.Row.{Row}
use Rattle.page_json.specs.Bodies.{Fits}
use Rattle.page_json.specs.Texts.{row_text}
use Rattle.page_json.proofs.Grown.{IsLeft, first_put, one_less, none_left}
use Rattle.page_json.proofs.page.put_rows.Goals as goal

pub loop-row-init : goal.loop-row-init
loop-row-init c =
    let rows = c.args.rows.now in
    let text = c.args.text.now.items in
    subst (λ t. IsLeft t (text ++ join_with_byte 44 (map row_text rows)) c.in-Some.others.now 0) (sym c.in_ok-put_row.ensures.text)
    (first_put text rows c.in-Some.others.now c.in-Some.first.now c.in-Some.ensures.cases.0)

pub loop-row-preserved : goal.loop-row-preserved
loop-row-preserved c =
    let whole = c.args.text.now.items ++ join_with_byte 44 (map row_text c.args.rows.now) in
    let others = c.in-Some.others.now in
    let i = c.loop-row.row-index in
    let blank : Row = record { object = 0; grade = 0 } in
    let row = slice_index_or others i blank in
    let more = one_less c.loop-row.text.items whole others i row blank c.loop-row-test.true refl c.put_row-in-loop-row.ensures.fits c.loop-row.invariant in
    subst (λ t. IsLeft t whole others (i + 1)) (sym (c.in_ok-put_row-2.ensures.text ∙ ap (λ t. t ++ row_text row) c.in_ok-push.ensures.items)) more

pub returns-clause-fit : goal.returns-clause-fit
returns-clause-fit c =
    let others = c.in-Some.others.now in
    let all = none_left c.loop-row.text.items _ others c.loop-row.row-index c.loop-row-test.false c.loop-row.invariant in
    subst (All Fits) (sym c.in-Some.ensures.cases.0) (All-cons Fits c.in-Some.first.now others c.put_row.ensures.fits all.1)
