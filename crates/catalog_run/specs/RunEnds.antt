-- How a run of query lines over a catalog ends, by its status.
use Rattle.std.specs.Prelude.{◌⊎◌, List, ℕ}
use Rattle.topk_base.specs.Lines.{lines}
use Rattle.csv_records.specs.Records.{records_of}
use Rattle.catalog_text.specs.Catalog.{Listed as Entry, IsCatalog}
use Rattle.command_line.specs.declared.running.RunOptions.{RunOptions}
use Rattle.topk_base.specs.declared.settings.Settings.{Settings}
use Rattle.command_line.specs.Calls.{Call, LeftAlone, KeepsShelf, ReadSome, ReadWhole, ReadFailed, ReadLong, WroteNothing, WroteWhole, WroteFront}
use Rattle.command_line.specs.Shelves.{Shelf, GivesText, TextFailed, TextRefused}
use Rattle.catalog_run.specs.Taking.{TakesSources}
use Rattle.catalog_run.specs.Cut.{RanOutOfMemory}
use Rattle.catalog_run.specs.Running.{RefusesCatalog, RepliesToLines, lines_run}
use Rattle.command_line.specs.declared.status.Status.{Status}
use Rattle.command_line.specs.declared.status.Status.TheVariants.{Done, Partial, BadCatalog, LongInput, Memory}
use Rattle.command_line.specs.declared.status.Status.TheVariants.{ReadFault, WriteFault, OpenFault}

-- the text is no catalog, and this is said; no source was taken, and the input wasn't read
pub record CatalogRefused (text : List ℕ) (c : Call) (said : List ℕ) : Type 0 where
  pub refuses : RefusesCatalog text said
  pub shelf : KeepsShelf c
  pub alone : LeftAlone c

-- the text is a catalog, and no source was taken
pub record CatalogStands (text : List ℕ) (c : Call) : Type 0 where
  pub catalog : List Entry
  pub is : IsCatalog (records_of text) catalog
  pub shelf : KeepsShelf c

-- the text is a catalog, and the input was read to its end: this is the reply to its lines
pub record LinesReplied (settings : Settings) (text : List ℕ) (c : Call) (status : Status) (said : List ℕ) : Type 0 where
  pub bytes : List ℕ
  pub read : ReadWhole c bytes
  pub replies : RepliesToLines settings text bytes c.before.shelf c.after.shelf status said

-- the text is a catalog, and the input was read to its end: no more was done than that sources were taken for its lines, read as a run reads them for which
-- memory ran out, and put back
pub record LinesLeft (settings : Settings) (text : List ℕ) (c : Call) : Type 0 where
  pub catalog : List Entry
  pub is : IsCatalog (records_of text) catalog
  pub bytes : List ℕ
  pub read : ReadWhole c bytes
  pub takes : TakesSources catalog (lines bytes) c.before.shelf c.after.shelf
  pub cut : RanOutOfMemory (lines_run settings catalog (lines bytes) c.before.shelf c.after.shelf)

-- where memory may run out: before the text is known to be a catalog, before the input has ended, or when its lines are run
abbrev pub WantsMemory : Settings → List ℕ → Call → Type 0
WantsMemory s text c = (KeepsShelf c × LeftAlone c) ⊎ ((CatalogStands text c × ReadSome c) ⊎ LinesLeft s text c)

-- how query lines end over the catalog that is this text, once the shelf gave it
abbrev pub RunsOverCatalog : Settings → List ℕ → Call → Status → Type 0
RunsOverCatalog s text c Done = (said : List ℕ) × LinesReplied s text c Done said × WroteWhole c said
RunsOverCatalog s text c Partial = (said : List ℕ) × LinesReplied s text c Partial said × WroteWhole c said
RunsOverCatalog s text c BadCatalog = (said : List ℕ) × CatalogRefused text c said × WroteWhole c said
RunsOverCatalog s text c WriteFault =
    (said : List ℕ) × (CatalogRefused text c said ⊎ ((status : Status) × LinesReplied s text c status said)) × WroteFront c said
RunsOverCatalog s text c ReadFault = CatalogStands text c × ReadFailed c × WroteNothing c
RunsOverCatalog s text c LongInput = CatalogStands text c × ReadLong c × WroteNothing c
RunsOverCatalog s text c Memory = WantsMemory s text c × WroteNothing c
RunsOverCatalog _ _ _ _ = ⊥

-- what is left of a call from the moment on at which the shelf stood so
abbrev pub from_shelf : Shelf → Call → Call
from_shelf shelf c = record c { before = record c.before { shelf = shelf } }

-- the shelf gave the catalog's text, and then a run over it ended so
abbrev pub RunsOn : RunOptions → Call → Status → Type 0
RunsOn o c status =
    (text : List ℕ) × (given : Shelf) × GivesText o.catalog c.before.shelf given text × RunsOverCatalog o.settings text (from_shelf given c) status

-- how a run of query lines over a catalog ends
abbrev pub EndsRunning : RunOptions → Call → Status → Type 0
EndsRunning o c Done = RunsOn o c Done
EndsRunning o c Partial = RunsOn o c Partial
EndsRunning o c BadCatalog = RunsOn o c BadCatalog
EndsRunning o c WriteFault = RunsOn o c WriteFault
EndsRunning o c ReadFault = RunsOn o c ReadFault
EndsRunning o c LongInput = RunsOn o c LongInput
EndsRunning o c OpenFault = TextFailed o.catalog c.before.shelf c.after.shelf × LeftAlone c × WroteNothing c
EndsRunning o c Memory = (TextRefused o.catalog c.before.shelf c.after.shelf × LeftAlone c × WroteNothing c) ⊎ RunsOn o c Memory
EndsRunning _ _ _ = ⊥
