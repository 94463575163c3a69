-- How query lines are read, and which sources of a catalog they want.
use Rattle.std.specs.Prelude.{◌≡◌, ◌≤◌, ◌+◌, ◌⊎◌, ℕ, Bool, true, List, map, length, Contains, Some, Ok, slice_get}
use Rattle.query_text.specs.declared.query.Query.{Query}
use Rattle.query_text.specs.Reading.{Reads}
use Rattle.query_admission.specs.Causes.{most_queries}
use Rattle.query_admission.specs.Admission.{IsReadAs}
use Rattle.query_admission.specs.declared.reading.ReadLine.{ReadLine}
use Rattle.catalog_text.specs.Catalog.{Listed as Entry}
use Rattle.catalog_open.specs.Entries.{is_marked}
use Rattle.catalog_open.specs.Views.{entry_named}

-- the lines, which are numbered from 1, were read so
pub record AreRead (lines : List (List ℕ)) (read : List ReadLine) : Type 0 where
  pub many : length read ≡ length lines
  pub each : (at : ℕ) (bytes : List ℕ) (line : ReadLine) → slice_get lines at ≡ Some bytes → slice_get read at ≡ Some line → IsReadAs (at + 1) bytes line

-- a line of this number wants the source at a place of the catalog: it is one of the first lines,
-- it spells a query all of whose lists are in the catalog, and one of them is there
pub record Wants (catalog : List Entry) (number : ℕ) (bytes : List ℕ) (place : ℕ) : Type 0 where
  pub few : number ≤ most_queries
  pub query : Query
  pub reads : Reads bytes (Ok query)
  pub places : List ℕ
  pub known : map (entry_named catalog) query.names ≡ map Some places
  pub named : Contains places place

-- one of the lines, which are numbered from 1, wants it
pub record IsWanted (catalog : List Entry) (lines : List (List ℕ)) (place : ℕ) : Type 0 where
  pub at : ℕ
  pub bytes : List ℕ
  pub line : slice_get lines at ≡ Some bytes
  pub wants : Wants catalog (at + 1) bytes place

-- the places of the catalog that are marked are those of the sources that the lines want
pub record AreMarked (catalog : List Entry) (lines : List (List ℕ)) (marks : List Bool) : Type 0 where
  pub many : length marks ≡ length catalog
  pub wanted : (place : ℕ) → is_marked marks place ≡ true → IsWanted catalog lines place
  pub marked : (place : ℕ) → IsWanted catalog lines place → is_marked marks place ≡ true

-- beside those that were marked, these places are, and no others
pub record MarksMore (These : ℕ → Type 0) (before now : List Bool) : Type 0 where
  pub kept : (place : ℕ) → is_marked before place ≡ true → is_marked now place ≡ true
  pub marked : (place : ℕ) → These place → is_marked now place ≡ true
  pub others : (place : ℕ) → is_marked now place ≡ true → (is_marked before place ≡ true) ⊎ These place
