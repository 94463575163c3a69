use Rattle.bundle_text.specs.Numbered.{list_name}
use Rattle.bundle_text.proofs.Sections.{puts_section}
use Rattle.bundle_text.proofs.table.put_section.Goals as goal

pub returns : goal.returns
returns g c = puts_section (list_name c.args.number) c.args.rows.now _ _ _ c.put_heading.ensures c.put_rows.ensures
