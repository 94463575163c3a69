-- What the open sources of a run gave, by what the lines asked of them.
use Rattle.std.specs.Prelude.{◌≡◌, ◌≢◌, ◌≤◌, ◌<◌, ℕ, false, Some, List, All, AllPairs, length, map, slice_index_or}
use Rattle.std.specs.List.{AllZip, sum_by}
use Rattle.ranked_list.specs.declared.row.Row.{Row}
use Rattle.ranked_list.specs.Table.{IsTable}
use Rattle.source_api.specs.declared.counts.Counts.{Counts}
use Rattle.source_api.specs.declared.ledger.PlaceCounts.{PlaceCounts}
use Rattle.source_state.specs.Looking.{reach_of}
use Rattle.fetcher.specs.Metering.{WentUp}
use Rattle.query_run.specs.declared.running_query.RunningQuery.{RunningQuery}
use Rattle.topk_base.specs.declared.settings.Settings.{Settings}
use Rattle.batch_result.specs.Account.{IsAnsweredOf, Reading, deepest, one_readings, printed_readings, random_accesses}
use Rattle.batch_result.specs.Batches.{size_at}
use Rattle.batch_result.specs.Cut.{begun}
use Rattle.batch_result.specs.Numbered.{counts_at}
use Rattle.batch_result.specs.Tables.{lists_for}
use Rattle.batch_result.specs.Using.{IsWantedBy, IsNamedBy}
use Rattle.query_admission.specs.declared.line_outcome.LineOutcome.{LineOutcome}
use Rattle.catalog_text.specs.Catalog.{Listed as Entry}
use Rattle.catalog_open.specs.Entries.{entry_at}
use Rattle.catalog_open.specs.Openings.{put_back, used_at}
use Rattle.catalog_run.specs.Runs.{CatalogRun, IsRun}
use Rattle.catalog_run.specs.Cut.{RanOutOfMemory}

-- a source of so many objects gave no more than these queries asked of it, whatever their number: no row beyond the reach of the greatest depth to which one of
-- them asked, and for each of some objects, whose grades were asked for, one grade at most
pub record GaveWhatIsAsked (settings : Settings) (queries : List RunningQuery) (source size : ℕ) (now : Counts) : Type 0 where
  pub depth : ℕ
  pub deep : IsWantedBy queries source depth
  pub rows : now.rows_given ≤ reach_of depth settings.page settings.ahead size
  pub objects : List ℕ
  pub distinct : AllPairs (λ (one : ℕ) (other : ℕ). one ≢ other) objects
  pub named : All (IsNamedBy queries source) objects
  pub grades : now.grades_given ≤ length objects

-- a source of so many objects gave no more than these readings make of it: no row beyond the reach of their greatest depth, and no more grades than they
-- make random accesses to it
pub record GaveWhatIsRead (settings : Settings) (readings : List Reading) (source size : ℕ) (now : Counts) : Type 0 where
  pub rows : now.rows_given ≤ reach_of (deepest source readings) settings.page settings.ahead size
  pub grades : now.grades_given ≤ random_accesses source readings

-- the open sources of a run tell these lists, and those of each line that ran form a table
pub record LinesHaveTables (r : CatalogRun) (outcomes : List LineOutcome) (run : IsRun r outcomes) (lists : List (List Row)) : Type 0 where
  pub told : run.sources.told ≡ map Some lists
  pub tables : All (λ ready. IsTable ready.count (lists_for lists ready)) run.ran.readies

-- what a shelf has counted of the sources of a place rose by what these gave; a count stands still at its last value
pub record RoseByGiven (before after : PlaceCounts) (given : List Counts) : Type 0 where
  pub rows : WentUp (sum_by (λ (c : Counts). c.rows_given) given) before.sources.rows_given after.sources.rows_given
  pub grades : WentUp (sum_by (λ (c : Counts). c.grades_given) given) before.sources.grades_given after.sources.grades_given

-- the list of an open source can't be read in order, by its entry of the catalog; the entries stand at these places, by the numbers of the sources
abbrev pub IsOutOfOrder : List Entry → List ℕ → ℕ → Type 0
IsOutOfOrder catalog places source = (entry_at catalog (slice_index_or places source 0)).sorted ≡ false

-- each open source of a run gave no more than was asked of it, from when it was opened until it was put back: no more than the lines asked, and no row where
-- its list can't be read in order; where the sources tell lists that form tables, no more than the one runs of the lines that ran read of it; and where each
-- of these that reads it was answered, no more than the transcripts of the answers
pub record GaveSparingly (r : CatalogRun) (outcomes : List LineOutcome) (run : IsRun r outcomes) (source size : ℕ) (now : Counts) : Type 0 where
  pub asked : GaveWhatIsAsked r.settings run.ran.ran.queries source size now
  pub unread : IsOutOfOrder r.catalog run.sources.places source → now.rows_given ≡ 0
  pub read : (lists : List (List Row)) → LinesHaveTables r outcomes run lists → GaveWhatIsRead r.settings (one_readings lists run.ran.readies) source size now
  pub answered : AllZip (IsAnsweredOf source) run.ran.readies run.ran.batch.endings
      → GaveWhatIsRead r.settings (printed_readings run.ran.readies run.ran.batch.endings) source size now

abbrev pub EachGaveSparingly : (r : CatalogRun) (outcomes : List LineOutcome) → IsRun r outcomes → Type 0
EachGaveSparingly r outcomes run =
    (source : ℕ) → source < length run.sources.places → GaveSparingly r outcomes run source (size_at run.sources.counts source) (counts_at run.now source)

-- what the shelf counts of each place rose by what the sources of the place gave
abbrev pub EachPlaceRose : (r : CatalogRun) (outcomes : List LineOutcome) → IsRun r outcomes → Type 0
EachPlaceRose r outcomes run = (place : List ℕ) → RoseByGiven (r.before place) (r.after place) (used_at place (put_back r.catalog run.sources.places run.now))

-- the open sources of a run that ran out of memory tell these lists, and those of each line that was admitted form a table
pub record CutLinesHaveTables (r : CatalogRun) (cut : RanOutOfMemory r) (lists : List (List Row)) : Type 0 where
  pub told : cut.sources.told ≡ map Some lists
  pub tables : All (λ ready. IsTable ready.count (lists_for lists ready)) cut.read.readies

-- each open source of a run that ran out of memory gave no more by then than one of a run that ends: no more than the queries asked that had begun, and no
-- row where its list can't be read in order; and where the sources tell lists that form tables, no more than the one runs of the lines read of it
pub record HadGivenSparingly (r : CatalogRun) (cut : RanOutOfMemory r) (source size : ℕ) (now : Counts) : Type 0 where
  pub asked : GaveWhatIsAsked r.settings (begun cut.read.cut.stood) source size now
  pub unread : IsOutOfOrder r.catalog cut.sources.places source → now.rows_given ≡ 0
  pub read : (lists : List (List Row)) → CutLinesHaveTables r cut lists → GaveWhatIsRead r.settings (one_readings lists cut.read.readies) source size now

abbrev pub EachHadGivenSparingly : (r : CatalogRun) → RanOutOfMemory r → Type 0
EachHadGivenSparingly r cut =
    (source : ℕ) → source < length cut.sources.places → HadGivenSparingly r cut source (size_at cut.sources.counts source) (counts_at cut.now source)

-- what the shelf counts of each place rose by what the sources of the place gave, where memory ran out
abbrev pub EachPlaceHadRisen : (r : CatalogRun) → RanOutOfMemory r → Type 0
EachPlaceHadRisen r cut = (place : List ℕ) → RoseByGiven (r.before place) (r.after place) (used_at place (put_back r.catalog cut.sources.places cut.now))
