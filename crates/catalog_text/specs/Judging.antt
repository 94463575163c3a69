-- The first record at fault of a text that is no catalog.
use Rattle.std.specs.Prelude.{◌≡◌, ◌⊎◌, ◌+◌, ◌<◌, ℕ, Bool, List, [], ◌∷◌, ◌++◌, Result, Ok, Err, length, map, Contains}
use Rattle.catalog_text.specs.declared.catalog.CatalogFault.{CatalogFault}
use Rattle.catalog_text.specs.declared.catalog.CatalogFault.TheVariants.{CatalogLine, SameName, Memory}
use Rattle.catalog_text.specs.Catalog.{Listed, header, spelled, IsListed, IsCatalog}
use Rattle.topk_base.specs.declared.TheConstants.{MAX_SOURCES}

-- the record has the form that is asked for after these: a header at the beginning, and then at most 64 sources, each with as many fields as the header
abbrev pub HasForm : List (List (List ℕ)) → List (List ℕ) → Type 0
HasForm [] fields = (wide : Bool) × (fields ≡ header wide)
HasForm (first ∷ sources) fields =
    (length sources < MAX_SOURCES) × (wide : Bool) × (first ≡ header wide) × (source : Listed) × IsListed wide source × (fields ≡ spelled wide source)

-- the first field of a record
abbrev pub name_in : List (List ℕ) → List ℕ
name_in [] = []
name_in (name ∷ more) = name

-- the record has the name of one of these that is below the header
abbrev pub RepeatsName : List (List (List ℕ)) → List (List ℕ) → Type 0
RepeatsName [] fields = ⊥
RepeatsName (first ∷ sources) fields = Contains (map name_in sources) (name_in fields)

-- no record of these is at fault: there is none, or they are a catalog
abbrev pub IsSound : List (List (List ℕ)) → Type 0
IsSound records = (records ≡ []) ⊎ ((sources : List Listed) × IsCatalog records sources)

-- the record with this number, from 1, and those before it, of which none is at fault
pub record Reaches (records : List (List (List ℕ))) (number : ℕ) : Type 0 where
  pub before : List (List (List ℕ))
  pub here : List (List ℕ)
  pub after : List (List (List ℕ))
  pub whole : records ≡ before ++ here ∷ after
  pub counted : number ≡ length before + 1
  pub sound : IsSound before

-- the first record at fault has this number, and a wrong form
abbrev pub IsBroken : List (List (List ℕ)) → ℕ → Type 0
IsBroken records number = (at : Reaches records number) × ¬ HasForm at.before at.here

-- the first record at fault has this number, and the name of an earlier one
abbrev pub IsRepeated : List (List (List ℕ)) → ℕ → Type 0
IsRepeated records number = (at : Reaches records number) × HasForm at.before at.here × RepeatsName at.before at.here

-- what reading a catalog answers: its sources, or the first record at fault, which is the first where there is none
abbrev pub Judges : List (List (List ℕ)) → Result (List Listed) CatalogFault → Type 0
Judges records (Ok sources) = IsCatalog records sources
Judges records (Err (CatalogLine line)) = ((records ≡ []) × (line ≡ 1)) ⊎ IsBroken records line
Judges records (Err (SameName line)) = IsRepeated records line
Judges records (Err Memory) = Unit {0}
