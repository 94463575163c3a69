-- What a bundle is, how lines spell one, and where lines stop being the front of one.
use Rattle.std.specs.Prelude.{◌≡◌, ◌≢◌, ◌≤◌, ◌<◌, ◌^◌, ◌+◌, ◌-◌, ℕ, List, [], ◌∷◌, ◌++◌, length, map, take, codes, All, AllPairs}
use Rattle.std.specs.List.{flat_map, zip}
use Rattle.std.specs.Fmt.{decimal}
use Rattle.std.specs.declared.result.Result.{Result}
use Rattle.std.specs.declared.result.Result.TheVariants.{Ok, Err}
use Rattle.topk_base.specs.Names.{IsName}
use Rattle.ranked_list.specs.declared.row.Row.{Row}
use Rattle.bundle_text.specs.declared.bundle.Bundle.{Bundle}
use Rattle.bundle_text.specs.declared.bundle.BundleFault.{BundleFault}
use Rattle.bundle_text.specs.declared.bundle.BundleFault.TheVariants.{BadBundle, Memory}
use Rattle.ranked_list.specs.Table.{IsTable}
use Rattle.topk_base.specs.declared.TheConstants.{MAX_BUNDLE_LISTS, MAX_OBJECTS}

-- what a bundle says: the names of its lists, the lists, and the text of its query
pub record Content : Type 0 where
  pub names : List (List ℕ)
  pub lists : List (List Row)
  pub query : List ℕ

-- the content of a bundle that was read
abbrev pub content : Bundle → Content
content bundle = record { names = map (λ name. name.items) bundle.names.items; lists = bundle.lists.items; query = bundle.query.items }

-- a bundle: 1 to 64 lists, each with a name of its own, that are a table of 1 to 200,000 rows, over objects of 32 bits; and one line of query text
pub record IsBundle (c : Content) : Type 0 where
  pub some : 1 ≤ length c.lists
  pub few : length c.lists ≤ MAX_BUNDLE_LISTS
  pub each_named : length c.names ≡ length c.lists
  pub names : All IsName c.names
  pub apart : AllPairs (λ (above : List ℕ) (below : List ℕ). above ≢ below) c.names
  pub table : (n : ℕ) × (1 ≤ n) × (n ≤ MAX_OBJECTS) × IsTable n c.lists
  pub small : All (λ rows. All (λ row. row.object < 2 ^ 32) rows) c.lists
  pub one_line : All (λ byte. byte ≢ 10) c.query

-- the line that begins a list
abbrev pub list_line : List ℕ → List ℕ
list_line name = codes "list " ++ name

-- the line of a row: its object and its grade, with a comma between
abbrev pub row_line : Row → List ℕ
row_line row = decimal row.object ++ 44 ∷ decimal row.grade

-- the line of a query
abbrev pub query_line : List ℕ → List ℕ
query_line query = codes "query " ++ query

-- the lines of a list
abbrev pub section : List ℕ → List Row → List (List ℕ)
section name rows = list_line name ∷ map row_line rows

-- the lines of lists under their names
abbrev pub sections : List (List ℕ) → List (List Row) → List (List ℕ)
sections names lists = flat_map (λ list. section list.0 list.1) (zip names lists)

-- the lines that spell a bundle: those of its lists, and then the query's
abbrev pub bundle_lines : Content → List (List ℕ)
bundle_lines c = sections c.names c.lists ++ query_line c.query ∷ []

-- the lines spell this content, and it is a bundle
pub record Spells (ls : List (List ℕ)) (c : Content) : Type 0 where
  pub bundle : IsBundle c
  pub spelled : ls ≡ bundle_lines c

-- the lines are the front of the lines of some bundle
abbrev pub BeginsBundle : List (List ℕ) → Type 0
BeginsBundle ls = (rest : List (List ℕ)) × (c : Content) × Spells (ls ++ rest) c

-- the line, counted from 1, is the first such that no bundle's lines begin with the lines up to and including it,
-- or the number of lines plus one where all of them are the front of some bundle's
pub record IsFirstFault (ls : List (List ℕ)) (line : ℕ) : Type 0 where
  pub counted : 1 ≤ line
  pub within : line ≤ length ls + 1
  pub begins : BeginsBundle (take (line - 1) ls)
  pub ends : line ≤ length ls → BeginsBundle (take line ls) → ⊥

-- the reading of lines that spell this content: it is the content of what was read, or memory was refused
abbrev pub IsReadAs : Content → Result Bundle BundleFault → Type 0
IsReadAs c (Ok bundle) = content bundle ≡ c
IsReadAs c (Err (BadBundle line)) = ⊥
IsReadAs c (Err Memory) = Unit {0}

-- why no bundle was read from the lines
abbrev pub IsCause : List (List ℕ) → BundleFault → Type 0
IsCause ls (BadBundle line) = IsFirstFault ls line
IsCause ls Memory = Unit {0}
