-- What query lines over the lists of a catalog come to, as a whole.
use Rattle.std.specs.Prelude.{◌≡◌, ◌⊎◌, ◌+◌, ℕ, Bool, List, [], ◌∷◌, All, Option, Some, length, map, reverse, slice_get}
use Rattle.std.specs.List.{AllZip}
use Rattle.ranked_list.specs.declared.row.Row.{Row}
use Rattle.source_api.specs.declared.counts.Counts.{Counts}
use Rattle.source_api.specs.Counting.{NoneFell}
use Rattle.source_api.specs.Calls.{Call}
use Rattle.query_core.specs.declared.ready.Ready.{Ready}
use Rattle.query_admission.specs.View.{View}
use Rattle.query_admission.specs.Causes.{line_over}
use Rattle.query_admission.specs.Admission.{IsAdmitted}
use Rattle.query_run.specs.declared.ended.Ended.{Ended}
use Rattle.query_run.specs.declared.running_query.RunningQuery.{RunningQuery}
use Rattle.query_run.specs.Made.{IsOf, IsReadyFor}
use Rattle.query_run.specs.Endings.{EndsAs, IsRight}
use Rattle.topk_base.specs.declared.settings.Settings.{Settings}
use Rattle.batch_result.specs.Batches.{BatchState, IsBatch}
use Rattle.batch_result.specs.Numbered.{version_at}
use Rattle.catalog_text.specs.Catalog.{Listed as Entry}
use Rattle.catalog_open.specs.declared.opened.Opening.{Opening}
use Rattle.catalog_open.specs.Views.{view_over, nothing_told}
use Rattle.catalog_open.specs.Wanted.{IsWanted, AreMarked}
use Rattle.catalog_open.specs.Openings.{Counted, IsUnread, GivesNothing, PutsBack, Sources, AreOpened, AsksEachAtMostOnce, AsksEachOnce, put_back}
use Rattle.catalog_run.specs.OpenSources.{batch_over}
use Rattle.query_admission.specs.declared.line_outcome.LineOutcome.{LineOutcome}
use Rattle.line_outcome.specs.LineOutcomes.{IsLineRefused, IsEndedAs}

-- the line is ready, this is its query as it stood at its end, and the outcome is how that ended: right where it is answered, and else refused as the query is
pub record IsLineRun (view : View) (query : RunningQuery) (number : ℕ) (bytes : List ℕ) (o : LineOutcome) : Type 0 where
  pub ready : Ready
  pub admitted : IsAdmitted (line_over view number bytes) ready
  pub of : IsOf ready query
  pub ended : Ended
  pub ends : EndsAs query ended
  pub right : IsRight ready ended
  pub outcome : IsEndedAs ready ended o

-- the lines, numbered from this number on, have these outcomes: each is refused before it runs, or the first of these queries is its own and
-- the others are those of the lines below
abbrev pub AreOutcomes : View → List RunningQuery → ℕ → List (List ℕ) → List LineOutcome → Type 0
AreOutcomes view queries number [] [] = queries ≡ []
AreOutcomes view queries number (bytes ∷ lines) (o ∷ outcomes) =
    (IsLineRefused view number bytes o × AreOutcomes view queries (number + 1) lines outcomes)
    ⊎ ((query : RunningQuery) × (others : List RunningQuery) × (queries ≡ query ∷ others) × IsLineRun view query number bytes o
    × AreOutcomes view others (number + 1) lines outcomes)
AreOutcomes _ _ _ _ _ = ⊥

-- the query is that of one of the lines, which are numbered from 1, and is ready
pub record IsReadyOf (view : View) (lines : List (List ℕ)) (ready : Ready) : Type 0 where
  pub at : ℕ
  pub bytes : List ℕ
  pub line : slice_get lines at ≡ Some bytes
  pub admitted : IsAdmitted (line_over view (at + 1) bytes) ready

-- the versions of a ready query are those of its sources that are at hand
abbrev pub HasVersions : List ℕ → Ready → Type 0
HasVersions versions ready = ready.versions.items ≡ map (version_at versions) ready.sources.items

-- a run of query lines over a catalog: the lists and the versions that are told at the places of the shelf, the settings, and what the shelf counted before
-- and afterwards
pub record CatalogRun : Type 0 where
  pub catalog : List Entry
  pub lines : List (List ℕ)
  pub lists : List ℕ → Option (List Row)
  pub versions : List ℕ → Option ℕ
  pub settings : Settings
  pub before : Counted
  pub after : Counted

-- the queries of the lines that are ready ran as one batch over the open sources, no count of which fell, and the lines have the outcomes that follow from
-- how they ended
pub record RanOver (settings : Settings) (s : Sources) (begun now : List Counts) (made calls : List (Option (List Call))) (view : View)
    (lines : List (List ℕ)) (outcomes : List LineOutcome) : Type 0 where
  pub many : length begun ≡ length s.told
  pub later : AllZip NoneFell begun now
  pub readies : List Ready
  pub own : All (IsReadyOf view lines) readies
  pub ready : All (IsReadyFor s.counts) readies
  pub versions : All (HasVersions s.versions) readies
  pub batch : BatchState
  pub ran : IsBatch (batch_over settings s begun now made calls readies) batch
  pub outcomes_are : AreOutcomes view ran.queries 1 lines outcomes

-- the source of each entry that a line wants was asked for exactly once, and that of no other
abbrev pub AsksWantedOnce : List Entry → List (List ℕ) → Counted → Counted → Type 0
AsksWantedOnce catalog lines before now = (marks : List Bool) × AreMarked catalog lines marks × AsksEachOnce catalog marks before now

-- the source of each entry that a line wants was asked for at most once, and that of no other
abbrev pub AsksWantedAtMostOnce : List Entry → List (List ℕ) → Counted → Counted → Type 0
AsksWantedAtMostOnce catalog lines before now = (marks : List Bool) → AreMarked catalog lines marks → AsksEachAtMostOnce catalog marks before now

-- the sources that the lines want were opened, which reads nothing of them, and the lines ran over them; then the open sources were put back with what they
-- had counted
pub record IsRun (r : CatalogRun) (outcomes : List LineOutcome) : Type 0 where
  pub openings : List Opening
  pub sources : Sources
  pub mid : Counted
  pub idle : (place : List ℕ) → GivesNothing (r.before place) (mid place)
  pub opened : AreOpened r.lists r.versions r.catalog (IsWanted r.catalog r.lines) r.before mid openings sources
  pub all : length openings ≡ length r.catalog
  pub once : AsksWantedOnce r.catalog r.lines r.before mid
  pub begun : List Counts
  pub unread : All IsUnread begun
  pub now : List Counts
  pub made : List (Option (List Call))
  pub calls : List (Option (List Call))
  pub ran : RanOver r.settings sources begun now made calls (view_over r.catalog openings nothing_told) r.lines outcomes
  pub back : PutsBack (reverse (put_back r.catalog sources.places now)) mid r.after
