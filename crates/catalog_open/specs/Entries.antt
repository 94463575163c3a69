-- The entries of a catalog by their places.
use Rattle.std.specs.Prelude.{◌≡◌, ℕ, Bool, true, false, List, [], slice_index_or}
use Rattle.catalog_text.specs.Catalog.{Listed as Entry}
use Rattle.catalog_open.specs.declared.opened.Opening.{Opening}
use Rattle.catalog_open.specs.declared.opened.Opening.TheVariants.{Closed}

-- an entry that is nowhere
abbrev pub no_entry : Entry
no_entry = record { name = []; place = []; random = false; sorted = false }

-- the entry of the catalog at a place, and what became of the source there
abbrev pub entry_at : List Entry → ℕ → Entry
entry_at catalog place = slice_index_or catalog place no_entry

abbrev pub opening_at : List Opening → ℕ → Opening
opening_at openings place = slice_index_or openings place Closed

-- what is told at a place of the catalog, of the rows of its list or of their version, by what is told at the places of a shelf
abbrev pub entry_told : {X : Type 0} → (List ℕ → X) → List Entry → ℕ → X
entry_told told catalog place = told (entry_at catalog place).place

-- whether a place is marked
abbrev pub is_marked : List Bool → ℕ → Bool
is_marked marks place = slice_index_or marks place false

abbrev pub IsMarked : List Bool → ℕ → Type 0
IsMarked marks place = is_marked marks place ≡ true
