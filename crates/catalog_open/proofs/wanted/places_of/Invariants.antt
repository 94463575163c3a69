use Rattle.std.proofs.Common.{◌≡◌, length, map, take, Some}
use Rattle.catalog_open.specs.Views.{entry_named}
use Rattle.catalog_open.proofs.wanted.places_of.Given as goal

-- the places of the names so far
abbrev pub invariant-loop-name : goal.invariant-loop-name
invariant-loop-name l = map (entry_named l.catalog) (take (length l.yielded) l.names) ≡ map Some l.places.items
