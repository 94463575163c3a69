-- What the crate keeps of a source, and what it reads of a record.
use Rattle.std.specs.Prelude.{◌≡◌, ℕ, Bool, true, false, List, Option, Some, None, option_map}
use Rattle.std.specs.Borrow.{Bor}
use Rattle.std.specs.String.{string_bytes}
use Rattle.catalog_text.specs.declared.catalog.Entry.{Entry}
use Rattle.catalog_text.specs.declared.fields.Parts.{Parts}
use Rattle.catalog_text.specs.Catalog.{Listed, IsListed, header, spelled, yes_or_no}

-- an entry as a source
abbrev pub listed : Entry → Listed
listed entry = record { name = entry.name.items; place = string_bytes entry.place; random = entry.random; sorted = entry.sorted }

-- what was read of a record as a source
abbrev pub listed_parts : Parts → Listed
listed_parts parts = record { name = parts.name.now; place = parts.place.now; random = parts.random; sorted = parts.sorted }

-- three borrowed fields, and a fourth if there is one
abbrev pub fields_now : Bor (List ℕ) × Bor (List ℕ) × Bor (List ℕ) × Option (Bor (List ℕ)) → List ℕ × List ℕ × List ℕ × Option (List ℕ)
fields_now fields = (fields.0.now, fields.1.now, fields.2.now, option_map (λ field. field.now) fields.3)

-- what a first record is read as: a header of records with a fourth field or without, or none
abbrev pub ReadsHeader : List (List ℕ) → Option Bool → Type 0
ReadsHeader fields None = (wide : Bool) → fields ≡ header wide → ⊥
ReadsHeader fields (Some wide) = fields ≡ header wide

-- what a field is read as: whether a source allows an access
abbrev pub ReadsAccess : List ℕ → Option Bool → Type 0
ReadsAccess field None = (allows : Bool) → field ≡ yes_or_no allows → ⊥
ReadsAccess field (Some allows) = field ≡ yes_or_no allows

-- what a fourth field that is asked for, or not, is read as: whether a source allows sorted access
abbrev pub ReadsSorted : Bool → Option (List ℕ) → Option Bool → Type 0
ReadsSorted true (Some field) result = ReadsAccess field result
ReadsSorted true None result = result ≡ None
ReadsSorted false (Some field) result = result ≡ None
ReadsSorted false None result = result ≡ Some true

-- what a record with a fourth field, or without, is read as: a source, or none
abbrev pub ReadsSource : Bool → List (List ℕ) → Option Parts → Type 0
ReadsSource wide fields None = (source : Listed) → IsListed wide source → fields ≡ spelled wide source → ⊥
ReadsSource wide fields (Some parts) = IsListed wide (listed_parts parts) × (fields ≡ spelled wide (listed_parts parts))
