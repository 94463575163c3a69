use Rattle.catalog_text.proofs.SourceLaws.{is_header, none_fourth, same_field}
use Rattle.std.proofs.Common.{◌∙◌}
use Rattle.catalog_text.proofs.fields.header_in.Goals as goal

pub returns-in_default-fourth : goal.returns-in_default-fourth
returns-in_default-fourth c =
    is_header _ _ _ _ (none_fourth _ _ _ _ c.in-Some.fourth c.in-Some.ensures c.in_default-fourth.is) (same_field _ _ _ c.ne.ensures c.if-ne.false ∙ c.as_slice.ensures)
    (same_field _ _ _ c.ne-else-ne.ensures c.if-ne-2.false ∙ c.as_slice-else-ne.ensures) (same_field _ _ _ c.ne-2.ensures c.if-ne-3.false ∙ c.as_slice-2.ensures)
