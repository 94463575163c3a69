-- The lists of a catalog by name.
use Rattle.std.specs.Prelude.{ℕ, List, Option, None, Some, option_map}
use Rattle.std.specs.List.{position}
use Rattle.std.specs.Option.{option_and_then}
use Rattle.std.specs.Str.{bytes_eq}
use Rattle.ranked_list.specs.declared.row.Row.{Row}
use Rattle.catalog_text.specs.Catalog.{Listed as Entry}
use Rattle.query_admission.specs.View.{View}
use Rattle.query_admission.specs.declared.lists.ListInfo.{ListInfo}
use Rattle.catalog_open.specs.Entries.{entry_at, opening_at, entry_told}
use Rattle.catalog_open.specs.declared.opened.Opening.{Opening}
use Rattle.catalog_open.specs.declared.opened.Opening.TheVariants.{Closed, Open}

-- where the entry of a name stands, if the catalog has one
abbrev pub entry_named : List Entry → List ℕ → Option ℕ
entry_named catalog name = position (λ entry. bytes_eq entry.name name) catalog

-- what a list says of itself, by its entry, which has the accesses that it offers, and by what became of its source; an open one is at the version that
-- its size stated
abbrev pub said_of : Entry → Opening → ListInfo
said_of entry Closed = record { size = None; random = entry.random; sorted = entry.sorted; source = 0; version = 0 }
said_of entry (Open size source version) =
    record { size = Some size; random = entry.random; sorted = entry.sorted; source = source; version = version }

abbrev pub listed_at : List Entry → List Opening → ℕ → ListInfo
listed_at catalog openings place = said_of (entry_at catalog place) (opening_at openings place)

-- no list is told
abbrev pub nothing_told : List ℕ → Option (List Row)
nothing_told place = None

-- what is known of the lists of a catalog by their names: what they say of themselves, by what became of their sources;
-- and their rows, where the shelf tells them
abbrev pub view_over : List Entry → List Opening → (List ℕ → Option (List Row)) → View
view_over catalog openings lists = record {
  listed = λ name. option_map (listed_at catalog openings) (entry_named catalog name);
  told = λ name. option_and_then (entry_told lists catalog) (entry_named catalog name);
}
