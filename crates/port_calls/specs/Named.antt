-- Where the list of a name is.
use Rattle.std.specs.Prelude.{ℕ, List, Option, option_map, find}
use Rattle.std.specs.Str.{bytes_eq}
use Rattle.catalog_text.specs.Catalog.{Listed as Entry}

-- the place of the source of this name
abbrev pub place_named : List ℕ → List Entry → Option (List ℕ)
place_named name catalog = option_map (λ entry. entry.place) (find (λ entry. bytes_eq entry.name name) catalog)
