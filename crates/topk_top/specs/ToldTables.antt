-- What query lines come to where the sources tell tables and nothing fails.
use Rattle.std.specs.Prelude.{◌≡◌, ◌+◌, ℕ, List, [], ◌∷◌, length, Option, Some, Ok, option_map, slice_get, unwrap_or}
use Rattle.std.specs.Option.{option_and_then}
use Rattle.tk_io.specs.Faults.{Rose}
use Rattle.ranked_list.specs.declared.row.Row.{Row}
use Rattle.ranked_list.specs.Table.{IsTable}
use Rattle.query_text.specs.declared.query.Query.{Query}
use Rattle.query_text.specs.Reading.{Reads}
use Rattle.query_admission.specs.View.{View, AreTold}
use Rattle.query_admission.specs.Causes.{QueryLine, admission_causes, RefusesFor, NoneOf, line_over}
use Rattle.query_admission.specs.Becomes.{Becomes}
use Rattle.query_admission.specs.declared.lists.ListInfo.{ListInfo}
use Rattle.catalog_text.specs.Catalog.{Listed as Entry}
use Rattle.catalog_open.specs.Views.{entry_named}
use Rattle.catalog_open.specs.Entries.{entry_at, entry_told}
use Rattle.catalog_open.specs.Wanted.{IsWanted}
use Rattle.catalog_open.specs.Openings.{TroubleAt}
use Rattle.query_admission.specs.declared.line_outcome.LineOutcome.{LineOutcome}
use Rattle.catalog_run.specs.Runs.{CatalogRun}

-- what the list at a place of a catalog says of itself, by its rows and its version: it has as many objects as rows, and is at this version
abbrev pub told_listed : (List ℕ → Option (List Row)) → (List ℕ → Option ℕ) → List Entry → ℕ → ListInfo
told_listed lists versions catalog place = record {
  size = option_map length (entry_told lists catalog place);
  random = (entry_at catalog place).random;
  sorted = (entry_at catalog place).sorted;
  source = place;
  version = unwrap_or (entry_told versions catalog place) 0;
}

-- the lists of a catalog by name, where the shelf tells them and their versions
abbrev pub view_told : List Entry → (List ℕ → Option (List Row)) → (List ℕ → Option ℕ) → View
view_told catalog lists versions = record {
  listed = λ name. option_map (told_listed lists versions catalog) (entry_named catalog name);
  told = λ name. option_and_then (entry_told lists catalog) (entry_named catalog name);
}

-- a line of a run, over the lists that are told
abbrev pub told_line : CatalogRun → ℕ → List ℕ → QueryLine
told_line r number bytes = line_over (view_told r.catalog r.lists r.versions) number bytes

-- if nothing refuses the line before it runs, the lists of its query form a table
abbrev pub LineHasTable : QueryLine → Type 0
LineHasTable x = (query : Query) (D : List (List Row)) → NoneOf (RefusesFor x) admission_causes → Reads x.bytes (Ok query) → AreTold x.view query D
    → (n : ℕ) × IsTable n D

-- the sources tell tables: each that the lines want tells its list and its version, the lists of each line that nothing refuses before it runs form a
-- table, no call that takes one of these sources, and none of a source, failed or was answered by garbled data, and none of their lists was replaced
pub record ShelfTellsTables (r : CatalogRun) : Type 0 where
  pub told : (place : ℕ) → IsWanted r.catalog r.lines place → (rows : List Row) × (entry_told r.lists r.catalog place ≡ Some rows)
  pub versions : (place : ℕ) → IsWanted r.catalog r.lines place → (version : ℕ) × (entry_told r.versions r.catalog place ≡ Some version)
  pub tables : (at : ℕ) (bytes : List ℕ) → slice_get r.lines at ≡ Some bytes → LineHasTable (told_line r (at + 1) bytes)
  pub untroubled : (place : ℕ) → IsWanted r.catalog r.lines place
      → ¬ TroubleAt (r.before (entry_at r.catalog place).place) (r.after (entry_at r.catalog place).place)
  pub unmoved : (place : ℕ) → IsWanted r.catalog r.lines place
      → ¬ Rose (r.before (entry_at r.catalog place).place).sources.moves (r.after (entry_at r.catalog place).place).sources.moves

-- each of some lines, numbered from this number on, becomes what it becomes over these lists
abbrev pub AllBecome : View → ℕ → List (List ℕ) → List LineOutcome → Type 0
AllBecome view number [] [] = Unit {0}
AllBecome view number (bytes ∷ lines) (o ∷ outcomes) =
    Becomes (line_over view number bytes) o.query o.count o.versions o.outcome × AllBecome view (number + 1) lines outcomes
AllBecome _ _ _ _ = ⊥
