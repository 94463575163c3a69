use Rattle.std.proofs.Common.{◌≡◌, map, slice_get, Some, rules}
use Rattle.catalog_text.specs.Listed.{listed}
use Rattle.catalog_open.specs.Entries.{opening_at}
use Rattle.catalog_open.specs.Views.{entry_named, said_of}
use Rattle.server_conn.specs.Entries.{opening_of}
use Rattle.server_conn.proofs.ListLaws.{list_found}
use Rattle.server_conn.proofs.opened.OpenedCatalogLists.find.Goals as goal

pub returns : goal.returns
returns c =
    let o = c.args.self.now in
    let openings = map opening_of o.entries in
    let place = c.in_ok-place.place in
    let from = listed c.in_ok-entry.entry.now in
    let named : entry_named o.catalog c.args.name.now ≡ Some place = search rules in
    let read : slice_get o.catalog place ≡ Some from = search rules in
    let became : c.opening_at.result ≡ opening_at openings place = search rules in
    let said : c.said_of.result ≡ said_of from c.opening_at.result = search rules in
    list_found o.catalog openings c.args.name.now place from c.opening_at.result c.said_of.result named read became said
