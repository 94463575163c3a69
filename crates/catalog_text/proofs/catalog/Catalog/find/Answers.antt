use Rattle.std.proofs.Common.{◌∙◌, sym}
use Rattle.catalog_text.proofs.NameLaws.{position_map}
use Rattle.catalog_text.proofs.catalog.Catalog.find.Goals as goal

pub returns : goal.returns
returns c =
    rw (← c.self.view_is)
    (c.copied.ensures ∙ (c.get.ensures.value ∙ (c.self.invariant.1 c.args.name.now ∙ sym (position_map c.self.inside.entries.items c.args.name.now))))
