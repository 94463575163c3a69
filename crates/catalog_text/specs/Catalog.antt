-- What a catalog is. Each record is the list of its fields.
use Rattle.std.specs.Prelude.{◌≡◌, ◌≢◌, ◌≤◌, ℕ, Bool, true, false, IsTrue, ◌||◌, List, [], ◌∷◌, Option, Some, None, length, map, codes, All, AllPairs, IsUtf8}
use Rattle.topk_base.specs.Names.{IsName}
use Rattle.catalog_text.specs.Places.{IsPathOrAddress}
use Rattle.topk_base.specs.declared.TheConstants.{MAX_SOURCES}

-- a source: the name of its list, its place, and whether it allows random access, and sorted access
pub record Listed : Type 0 where
  pub name : List ℕ
  pub place : List ℕ
  pub random : Bool
  pub sorted : Bool

-- the fourth field of a record, which all records of a catalog have or none has
abbrev pub fourth_if : Bool → List ℕ → List (List ℕ)
fourth_if true field = field ∷ []
fourth_if false field = []

-- the first record
abbrev pub header : Bool → List (List ℕ)
header wide = codes "name" ∷ codes "place" ∷ codes "random" ∷ fourth_if wide (codes "sorted")

abbrev pub yes_or_no : Bool → List ℕ
yes_or_no true = codes "yes"
yes_or_no false = codes "no"

-- the record of a source
abbrev pub spelled : Bool → Listed → List (List ℕ)
spelled wide source = source.name ∷ source.place ∷ yes_or_no source.random ∷ fourth_if wide (yes_or_no source.sorted)

-- a place is a file's path or an address, in 1 to 255 bytes of text
pub record IsPlace (place : List ℕ) : Type 0 where
  pub some : 1 ≤ length place
  pub most : length place ≤ 255
  pub form : IsPathOrAddress place
  pub text : IsUtf8 place

-- random and sorted access that a record may tell of: one of the two at least where it has a fourth field, and sorted access always where it has none
abbrev pub AllowsAccess : Bool → Bool → Bool → Type 0
AllowsAccess true random sorted = IsTrue (random || sorted)
AllowsAccess false random sorted = sorted ≡ true

-- what a catalog may say of a source in a record with a fourth field, or without
pub record IsListed (wide : Bool) (source : Listed) : Type 0 where
  pub name : IsName source.name
  pub place : IsPlace source.place
  pub access : AllowsAccess wide source.random source.sorted

-- the records, all with a fourth field or all without, are the header and then those of these sources, at most 64, no two of one name
pub record IsCatalogOf (wide : Bool) (records : List (List (List ℕ))) (sources : List Listed) : Type 0 where
  pub whole : records ≡ header wide ∷ map (spelled wide) sources
  pub each : All (IsListed wide) sources
  pub distinct : AllPairs (λ (above : Listed) (below : Listed). above.name ≢ below.name) sources
  pub few : length sources ≤ MAX_SOURCES

-- the records are a catalog of these sources, with a fourth field or without
abbrev pub IsCatalog : List (List (List ℕ)) → List Listed → Type 0
IsCatalog records sources = (wide : Bool) × IsCatalogOf wide records sources

-- the first three fields of a record that has three or four, and the fourth if there is one
abbrev pub fields_in : List (List ℕ) → Option (List ℕ × List ℕ × List ℕ × Option (List ℕ))
fields_in [] = None
fields_in (first ∷ []) = None
fields_in (first ∷ second ∷ []) = None
fields_in (first ∷ second ∷ third ∷ []) = Some (first, second, third, None)
fields_in (first ∷ second ∷ third ∷ fourth ∷ []) = Some (first, second, third, Some fourth)
fields_in (first ∷ second ∷ third ∷ fourth ∷ fifth ∷ more) = None
