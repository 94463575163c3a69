-- Runs of query lines that ran out of memory.
use Rattle.std.specs.Prelude.{◌≡◌, ◌<◌, ℕ, Option, List, All, length, reverse, take}
use Rattle.std.specs.List.{AllZip}
use Rattle.source_api.specs.declared.counts.Counts.{Counts}
use Rattle.source_api.specs.Counting.{NoneFell}
use Rattle.source_api.specs.Calls.{Call}
use Rattle.query_core.specs.declared.ready.Ready.{Ready}
use Rattle.query_admission.specs.View.{View}
use Rattle.query_admission.specs.declared.line_outcome.LineOutcome.{LineOutcome}
use Rattle.topk_base.specs.declared.settings.Settings.{Settings}
use Rattle.batch_result.specs.Cut.{IsCut}
use Rattle.catalog_open.specs.declared.opened.Opening.{Opening}
use Rattle.catalog_open.specs.Admissions.{AreAdmitted}
use Rattle.catalog_open.specs.Views.{view_over, nothing_told}
use Rattle.catalog_open.specs.Wanted.{IsWanted}
use Rattle.catalog_open.specs.Openings.{Counted, IsUnread, GivesNothing, PutsBack, Sources, AreOpened, put_back}
use Rattle.catalog_run.specs.OpenSources.{batch_over}
use Rattle.catalog_run.specs.Runs.{CatalogRun, AsksWantedOnce}

-- memory ran out for the lines when the first so many of them were admitted: by then those of their queries that are ready, each once, had read the open
-- sources, no count of which fell, as queries of a batch do that ran out of memory, and no other query had
pub record CutOver (settings : Settings) (s : Sources) (begun now : List Counts) (made calls : List (Option (List Call))) (view : View)
    (lines : List (List ℕ)) : Type 0 where
  pub many : length begun ≡ length s.told
  pub later : AllZip NoneFell begun now
  pub admitted : ℕ
  pub outcomes : List (Option LineOutcome)
  pub readies : List Ready
  pub are : AreAdmitted view 1 (take admitted lines) outcomes readies
  pub cut : IsCut (batch_over settings s begun now made calls readies)

-- a run that ran out of memory: sources that the lines want were opened, which reads nothing of them; lines were admitted, and read the open sources, only
-- once each wanted source was asked for; then the open sources were put back with what they had counted
pub record RanOutOfMemory (r : CatalogRun) : Type 0 where
  pub openings : List Opening
  pub sources : Sources
  pub mid : Counted
  pub idle : (place : List ℕ) → GivesNothing (r.before place) (mid place)
  pub opened : AreOpened r.lists r.versions r.catalog (IsWanted r.catalog r.lines) r.before mid openings sources
  pub begun : List Counts
  pub unread : All IsUnread begun
  pub now : List Counts
  pub made : List (Option (List Call))
  pub calls : List (Option (List Call))
  pub read : CutOver r.settings sources begun now made calls (view_over r.catalog openings nothing_told) r.lines
  pub first : 0 < read.admitted → (length openings ≡ length r.catalog) × AsksWantedOnce r.catalog r.lines r.before mid
  pub back : PutsBack (reverse (put_back r.catalog sources.places now)) mid r.after
