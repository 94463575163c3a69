-- What is kept while the records of a catalog are read.
use Rattle.std.specs.Prelude.{◌≡◌, ◌<◌, ◌≤◌, ◌+◌, ℕ, Bool, true, false, List, [], Option, Some, None, length, map, Contains}
use Rattle.catalog_text.specs.declared.catalog.CatalogFault.{CatalogFault}
use Rattle.catalog_text.specs.declared.catalog.CatalogFault.TheVariants.{CatalogLine, SameName, Memory}
use Rattle.catalog_text.specs.declared.reading.Reading.{Reading}
use Rattle.catalog_text.specs.Catalog.{Listed, IsCatalogOf}
use Rattle.catalog_text.specs.Judging.{IsBroken, IsRepeated}
use Rattle.topk_base.specs.declared.TheConstants.{MAX_SOURCES}

-- the fault is that of the first record at fault
abbrev pub IsFault : List (List (List ℕ)) → CatalogFault → Type 0
IsFault records (CatalogLine line) = IsBroken records line
IsFault records (SameName line) = IsRepeated records line
IsFault records Memory = ⊥

-- what was read of the records without a fault: nothing, or a catalog with a fourth field in its records, or without
abbrev pub IsFront : Bool → Bool → List Listed → List (List (List ℕ)) → Type 0
IsFront false wide sources records = (records ≡ []) × (sources ≡ [])
IsFront true wide sources records = IsCatalogOf wide records sources

abbrev pub IsTakenBy : Bool → Bool → List Listed → Option CatalogFault → List (List (List ℕ)) → Type 0
IsTakenBy started wide sources None records = IsFront started wide sources records
IsTakenBy started wide sources (Some fault) records = IsFault records fault

-- these records have been taken in
abbrev pub IsTaken : Reading → List (List (List ℕ)) → Type 0
IsTaken r records = IsTakenBy r.started r.wide r.catalog r.fault records

-- the names of sources
abbrev pub names : List Listed → List (List ℕ)
names sources = map (λ (s : Listed). s.name) sources

-- the fault of a record that comes after the header and these sources, and says this
abbrev pub FindsFault : List Listed → Option Listed → Option CatalogFault → Type 0
FindsFault sources None found = found ≡ Some (CatalogLine (length sources + 2))
FindsFault sources (Some source) None = (length sources < MAX_SOURCES) × ¬ Contains (names sources) source.name
FindsFault sources (Some source) (Some (CatalogLine line)) = (MAX_SOURCES ≤ length sources) × (line ≡ length sources + 2)
FindsFault sources (Some source) (Some (SameName line)) = (length sources < MAX_SOURCES) × Contains (names sources) source.name × (line ≡ length sources + 2)
FindsFault sources (Some source) (Some Memory) = ⊥
