use Rattle.std.proofs.Common.{sym}
use Rattle.catalog_text.proofs.PlaceLaws.{puts_first}
use Rattle.catalog_text.proofs.catalog.put_first.Goals as goal

pub returns-clause-ok : goal.returns-clause-ok
returns-clause-ok c =
    puts_first c.args.places.now c.insert.new.self c.in_ok-key.key c.args.name.now c.args.place c.in_ok-key.ensures.items (sym c.if-contains_key.ensures)
    c.in_ok-insert.ensures.entries
