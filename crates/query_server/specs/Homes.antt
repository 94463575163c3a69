-- The sources of the lists of a catalog, by the lists' places.
use Rattle.std.specs.Prelude.{◌≡◌, ◌<◌, ℕ, ⊤, List, Option, Some, None, length, slice_index_or, slice_set}
use Rattle.server_conn.specs.declared.opened.OpenedEntry.{OpenedEntry}
use Rattle.server_conn.specs.declared.opened.OpenedEntry.TheVariants.{Opened, NotOpened, TooLarge}

-- the source of a list, open or not, if it was taken
abbrev pub home_of : OpenedEntry → Option ℕ
home_of (Opened count source version) = Some source
home_of (NotOpened source) = source
home_of (TooLarge count source) = source

abbrev pub home_at : List (Option ℕ) → ℕ → Option ℕ
home_at homes place = slice_index_or homes place None

abbrev pub entry_at : List OpenedEntry → ℕ → OpenedEntry
entry_at entries place = slice_index_or entries place (NotOpened None)

-- these are sources of so many, and no two lists have the same
pub record AreHomes (sources : ℕ) (homes : List (Option ℕ)) : Type 0 where
  pub within : (place source : ℕ) → home_at homes place ≡ Some source → source < sources
  pub apart : (place other source : ℕ) → home_at homes place ≡ Some source → home_at homes other ≡ Some source → place ≡ other

-- the source of an open list is one of so many
abbrev pub IsWithin : ℕ → OpenedEntry → Type 0
IsWithin sources (Opened count source version) = source < sources
IsWithin sources (NotOpened source) = ⊤
IsWithin sources (TooLarge count source) = ⊤

-- the counts of the sources say of the source of an open list as many objects as the list has
abbrev pub IsCounted : List ℕ → OpenedEntry → Type 0
IsCounted counts (Opened count source version) = (source < length counts) × (slice_index_or counts source 0 ≡ count)
IsCounted counts (NotOpened source) = ⊤
IsCounted counts (TooLarge count source) = ⊤

-- counts in which that of an open list was put at the place of its source
abbrev pub counted_by : OpenedEntry → List ℕ → List ℕ
counted_by (Opened count source version) counts = slice_set counts source count
counted_by (NotOpened source) counts = counts
counted_by (TooLarge count source) counts = counts
