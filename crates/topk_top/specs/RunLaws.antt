-- What a run comes to where all that it reads is told.
use Rattle.std.specs.Prelude.{◌≡◌, ◌⊎◌, ◌≤◌, ℕ, List, length, Option, Some}
use Rattle.tk_io.specs.Faults.{Rose}
use Rattle.topk_base.specs.Lines.{lines}
use Rattle.ranked_list.specs.declared.row.Row.{Row}
use Rattle.source_api.specs.Places.{SameAtEach}
use Rattle.csv_records.specs.Records.{records_of}
use Rattle.catalog_text.specs.Catalog.{Listed as Entry, IsCatalog}
use Rattle.command_line.specs.declared.running.RunOptions.{RunOptions}
use Rattle.topk_base.specs.declared.settings.Settings.{Settings}
use Rattle.catalog_run.specs.Runs.{CatalogRun, IsRun}
use Rattle.catalog_run.specs.Cut.{RanOutOfMemory}
use Rattle.query_admission.specs.declared.line_outcome.LineOutcome.{LineOutcome}
use Rattle.topk_top.specs.ToldTables.{AllBecome, ShelfTellsTables, view_told}
use Rattle.topk_top.specs.Failures.{RefusesFew}
use Rattle.topk_top.specs.Giving.{EachGaveSparingly, EachHadGivenSparingly, EachPlaceHadRisen, EachPlaceRose}
use Rattle.command_line.specs.Calls.{Call, WroteWhole, input_limit}
use Rattle.command_line.specs.Shelves.{Shelf, TextFailed}
use Rattle.catalog_run.specs.Running.{RefusesCatalog, RepliesToLines, outcomes_text, lines_run, run_status}
use Rattle.catalog_run.specs.RunEnds.{EndsRunning, LinesLeft}
use Rattle.command_line.specs.declared.status.Status.{Status}
use Rattle.command_line.specs.declared.status.Status.TheVariants.{BadCatalog, Memory}
use Rattle.command_line.specs.declared.status.Status.TheVariants.{WriteFault, OpenFault}

-- the shelf tells this text of the catalog's place
abbrev pub TellsCatalog : RunOptions → Call → List ℕ → Type 0
TellsCatalog o c text = c.before.shelf.texts o.catalog ≡ Some text

-- a catalog's text is refused: what is written names its first record at fault, or a count rose that the status tells, or memory runs out
abbrev pub TurnsAway : List ℕ → RunOptions → Call → Status → Type 0
TurnsAway text o c BadCatalog = (said : List ℕ) × RefusesCatalog text said × WroteWhole c said
TurnsAway text o c OpenFault = TextFailed o.catalog c.before.shelf c.after.shelf
TurnsAway text o c WriteFault = Rose c.before.output.faults c.after.output.faults
TurnsAway text o c Memory = Unit {0}
TurnsAway _ _ _ _ = ⊥

-- a told text that is no catalog is refused, however a run ends
abbrev pub WrongCatalogsAreRefused : Type 0
WrongCatalogsAreRefused =
    (o : RunOptions) (c : Call) (status : Status) (text : List ℕ) → TellsCatalog o c text → ((catalog : List Entry) → ¬ IsCatalog (records_of text) catalog)
    → EndsRunning o c status → TurnsAway text o c status

-- all is told that a run reads, and nothing fails: its catalog's text, which is this catalog, the input, which is these bytes, within its limit, and by the
-- sources that its lines want a table for each line; no count of the catalog's text, of the input or of the output rose
pub record TellsAll (o : RunOptions) (c : Call) (catalog : List Entry) (bytes : List ℕ) : Type 0 where
  pub text : List ℕ
  pub tells : TellsCatalog o c text
  pub is : IsCatalog (records_of text) catalog
  pub input : c.before.input.left ≡ Some bytes
  pub short : length bytes ≤ input_limit
  pub tables : ShelfTellsTables (lines_run o.settings catalog (lines bytes) c.before.shelf c.after.shelf)
  pub opens : ¬ Rose (c.before.shelf.at o.catalog).text_faults (c.after.shelf.at o.catalog).text_faults
  pub reads : ¬ Rose c.before.input.faults c.after.input.faults
  pub writes : ¬ Rose c.before.output.faults c.after.output.faults

-- what lines come to over the lists that are told, at their versions: the text is that of what each line becomes, and the status is done exactly where each is answered
pub record ComeTo (catalog : List Entry) (lists : List ℕ → Option (List Row)) (versions : List ℕ → Option ℕ) (lines : List (List ℕ)) (status : Status)
    (text : List ℕ) : Type 0 where
  pub outcomes : List LineOutcome
  pub become : AllBecome (view_told catalog lists versions) 1 lines outcomes
  pub status_is : status ≡ run_status outcomes
  pub text_is : text ≡ outcomes_text 1 outcomes

-- the lines of these bytes come to this status and to the text that is written, and to no other
pub record WritesTheOne (c : Call) (catalog : List Entry) (bytes : List ℕ) (status : Status) : Type 0 where
  pub text : List ℕ
  pub wrote : WroteWhole c text
  pub comes : ComeTo catalog c.before.shelf.lists c.before.shelf.versions (lines bytes) status text
  pub only : (other : Status) (said : List ℕ) → ComeTo catalog c.before.shelf.lists c.before.shelf.versions (lines bytes) other said → (other ≡ status) × (said ≡ text)

-- where all is told and nothing fails, a run writes the one text, whatever its settings, unless memory runs out
abbrev pub ToldRunsWriteTheOne : Type 0
ToldRunsWriteTheOne =
    (o : RunOptions) (c : Call) (status : Status) (catalog : List Entry) (bytes : List ℕ) → TellsAll o c catalog bytes → EndsRunning o c status
    → (status ≡ Memory) ⊎ WritesTheOne c catalog bytes status

-- for two runs the same is told: of the same catalog and the same bytes, by shelves that tell the same lists at the same versions
pub record TellTheSame (o p : RunOptions) (c d : Call) (catalog : List Entry) (bytes : List ℕ) : Type 0 where
  pub one : TellsAll o c catalog bytes
  pub other : TellsAll p d catalog bytes
  pub lists : SameAtEach c.before.shelf.lists d.before.shelf.lists
  pub versions : SameAtEach c.before.shelf.versions d.before.shelf.versions

-- two runs wrote one text and ended with one status
pub record WroteTheSame (c d : Call) (status other : Status) : Type 0 where
  pub text : List ℕ
  pub one : WroteWhole c text
  pub two : WroteWhole d text
  pub status_is : status ≡ other

-- the settings change nothing: two runs for which the same is told write the same text and end with the same status, unless memory runs out
abbrev pub SettingsChangeNothing : Type 0
SettingsChangeNothing =
    (o p : RunOptions) (c d : Call) (status other : Status) (catalog : List Entry) (bytes : List ℕ) → TellTheSame o p c d catalog bytes
    → EndsRunning o c status → EndsRunning p d other → (status ≡ Memory) ⊎ ((other ≡ Memory) ⊎ WroteTheSame c d status other)

-- a run of lines is sparing: a source gave no more than the lines asked of it, and no more than their one runs read of it; what the shelf counted at a
-- place rose by that; and the lines that were refused because calls of a place's sources failed, or were answered by garbled data, are no more than the
-- workers times such calls
pub record IsSparing (r : CatalogRun) (outcomes : List LineOutcome) (run : IsRun r outcomes) : Type 0 where
  pub gave : EachGaveSparingly r outcomes run
  pub counted : EachPlaceRose r outcomes run
  pub refused : (place : List ℕ) → RefusesFew r outcomes place

-- each reply to lines is sparing, however many they are
abbrev pub RepliesAreSparing : Type 0
RepliesAreSparing =
    (settings : Settings) (text bytes : List ℕ) (before after : Shelf) (status : Status) (said : List ℕ)
    (r : RepliesToLines settings text bytes before after status said) → IsSparing (lines_run settings r.catalog (lines bytes) before after) r.outcomes r.run

-- a run that ran out of memory was sparing: by then a source had given no more than the lines asked of it, and no more than their one runs read of it; and
-- what the shelf counted at a place rose by that
pub record WasSparing (r : CatalogRun) (cut : RanOutOfMemory r) : Type 0 where
  pub gave : EachHadGivenSparingly r cut
  pub counted : EachPlaceHadRisen r cut

-- lines are read sparingly also where memory runs out
abbrev pub CutRunsAreSparing : Type 0
CutRunsAreSparing =
    (settings : Settings) (text : List ℕ) (c : Call) (left : LinesLeft settings text c)
    → WasSparing (lines_run settings left.catalog (lines left.bytes) c.before.shelf c.after.shelf) left.cut
