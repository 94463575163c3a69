-- Where each name of a catalog first stands.
use Rattle.std.specs.Prelude.{◌≡◌, ℕ, Bool, List, Option, Some, None, position, if◌then◌else◌}
use Rattle.std.specs.Str.{bytes_eq}
use Rattle.std.specs.Global.{Vec}
use Rattle.std.specs.HashMap.{HashMap, get_by}
use Rattle.std.specs.declared.hash.FoldHasher.{FoldHasher}
use Rattle.std.specs.declared.hash.BuildHasherDefault.{BuildHasherDefault}
use Rattle.catalog_text.specs.declared.catalog.Entry.{Entry}

-- names with their places
abbrev pub Places : Type 0
Places = HashMap (Vec ℕ) ℕ (BuildHasherDefault FoldHasher)

-- the place of a name
abbrev pub place_in : Places → List ℕ → Option ℕ
place_in places name = get_by (λ (key : Vec ℕ). bytes_eq name key.items) places

-- the place that a name has, or else the new one where that is put for the name
abbrev pub kept_place : Option ℕ → Bool → ℕ → Option ℕ
kept_place (Some place) same new = Some place
kept_place None same new = if same then Some new else None

-- the place is put for this name, unless it has one
abbrev pub PutsFirst : Places → Places → List ℕ → ℕ → Type 0
PutsFirst before now name new = (other : List ℕ) → place_in now other ≡ kept_place (place_in before other) (bytes_eq name other) new

-- each name's place is that of the first entry with it
abbrev pub IsPlaced : List Entry → Places → Type 0
IsPlaced entries places = (name : List ℕ) → place_in places name ≡ position (λ (entry : Entry). bytes_eq entry.name.items name) entries
