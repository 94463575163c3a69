-- The lists of a catalog with what became of their sources.
use Rattle.std.specs.Prelude.{◌≡◌, ◌≤◌, ◌<◌, List, All, length, map, ⊤}
use Rattle.atomic_table.specs.Seated.{TableId}
use Rattle.topk_base.specs.declared.TheConstants.{MAX_OBJECTS}
use Rattle.source_pool.specs.declared.hold.Hold.{Hold}
use Rattle.source_pool.specs.Passes.{IsPassOf}
use Rattle.query_admission.specs.View.{View}
use Rattle.query_admission.specs.declared.admitted.Admitted.{Admitted}
use Rattle.query_admission.specs.declared.admitted.Admitted.TheVariants.{Ready as IsReadyNow, Refused}
use Rattle.query_run.specs.Advancing.{WaitsForNothing, IsSourceIn, HasSourcesIn}
use Rattle.catalog_text.specs.Catalog.{Listed as Entry}
use Rattle.catalog_open.specs.declared.opened.Opening.{Opening}
use Rattle.catalog_open.specs.declared.opened.Opening.TheVariants.{Closed, Open}
use Rattle.catalog_open.specs.Views.{view_over, nothing_told}
use Rattle.server_conn.specs.declared.opened.OpenedEntry.{OpenedEntry}
use Rattle.server_conn.specs.declared.opened.OpenedEntry.TheVariants.{Opened, NotOpened, TooLarge}

-- a catalog, and what became of the source of each of its entries, in their order
pub record Openings : Type 0 where
  pub catalog : List Entry
  pub entries : List OpenedEntry

-- an open list has at most 200,000 objects, and one that is too large has more
abbrev pub IsSized : OpenedEntry → Type 0
IsSized (Opened count source version) = count ≤ MAX_OBJECTS
IsSized (NotOpened source) = ⊤
IsSized (TooLarge count source) = MAX_OBJECTS < count

-- what became of sources, one for each entry of a catalog
pub record AreEntriesOf (catalog : List Entry) (entries : List OpenedEntry) : Type 0 where
  pub many : length entries ≡ length catalog
  pub sized : All IsSized entries

-- what admission is told of it: a list that is too large states its size, and is never run over
abbrev pub opening_of : OpenedEntry → Opening
opening_of (Opened count source version) = Open count source version
opening_of (NotOpened source) = Closed
opening_of (TooLarge count source) = Open count 0 0

-- what is known of the lists by their names
abbrev pub view_in : Openings → View
view_in o = view_over o.catalog (map opening_of o.entries) nothing_told

-- the source of an open list is in the pool, with as many objects
abbrev pub IsThere : List Hold → OpenedEntry → Type 0
IsThere holds (Opened count source version) = IsSourceIn holds count source
IsThere holds (NotOpened source) = ⊤
IsThere holds (TooLarge count source) = ⊤

-- a query that is ready has its sources in the pool
abbrev pub HasSources : List Hold → Admitted → Type 0
HasSources holds (IsReadyNow ready) = HasSourcesIn holds ready
HasSources holds (Refused refusal query) = ⊤

-- lines may be answered through a pass: it is one of the pool, it waits for nothing, and the sources of all open lists are there
pub record MayAnswer (o : Openings) (pool : List TableId) (holds : List Hold) : Type 0 where
  pub own : IsPassOf pool holds
  pub rests : WaitsForNothing holds
  pub sources : All (IsThere holds) o.entries
