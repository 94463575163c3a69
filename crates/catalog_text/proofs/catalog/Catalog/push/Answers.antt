use Rattle.std.proofs.Common.{◌≡◌, ◌∙◌, ◌<◌, [], ◌∷◌, ◌++◌, length, map, ap, arith}
use Rattle.std.specs.Vec.{vec_len}
use Rattle.std.proofs.lemmas.List.{length-map}
use Rattle.catalog_text.specs.Catalog.{Listed}
use Rattle.catalog_text.specs.Listed.{listed}
use Rattle.catalog_text.proofs.PlaceLaws.{places_more}
use Rattle.catalog_text.proofs.catalog.Catalog.push.Goals as goal

pub invariant_of-self-2 : goal.invariant_of-self-2
invariant_of-self-2 c =
    let items = c.self.inside.entries.items in
    let room : length (map listed items) < 64 = rw c.self.view_is c.requires in
    let long : vec_len c.self.inside.entries ≡ length items = c.self.inside.entries.ok.0 in (
      omega (arith, room, long, length-map items listed, c.push_reserved.ensures.len, c.make_room.ensures.entries.1),
      places_more items c.push_reserved.new.self.items c.self.inside.places c.make_room.new.places c.in_ok-entry.entry c.args.parts.now.name.now (vec_len c.self.inside.entries)
          c.self.invariant.1 c.in-Ok.ensures.puts long (ap (λ (l : Listed). l.name) c.in_ok-entry.ensures)
          (c.push_reserved.ensures.items ∙ ap (λ xs. xs ++ c.in_ok-entry.entry ∷ []) c.make_room.ensures.entries.0),
    )
