use Rattle.std.proofs.Common.{refl, sym, ◌∙◌}
use Rattle.std.proofs.lemmas.List.{take_rest}
use Rattle.query_text.proofs.ReadLaws.{word_told}
use Rattle.query_text.proofs.reading.next_word.Goals as goal

pub returns-then-is_whole : goal.returns-then-is_whole
returns-then-is_whole c =
    word_told c.args.bytes.now c.args.at c.longest-count.result c.args.course.now.stage _ _ _ _ c.is_inside-inside.ensures (take_rest c.args.bytes.now c.args.at)
    c.longest-count.ensures (sym c.if-is_whole.true ∙ c.is_whole.ensures)

pub returns : goal.returns
returns c =
    let told = word_told c.args.bytes.now c.args.at c.longest-count.result c.args.course.now.stage _ _ _ _ c.is_inside-inside.ensures (take_rest c.args.bytes.now c.args.at)
    c.longest-count.ensures (sym c.if-is_whole.false ∙ c.is_whole.ensures) in
    (c.longest-count.result, refl, told.0, told.1)
