-- What stands behind the refusals of lists that failed: the counts of their places on the shelf.
use Rattle.std.specs.Prelude.{◌≡◌, ◌≤◌, ◌⊎◌, ◌*◌, ◌-◌, ◌^◌, ◌&&◌, ℕ, Bool, true, false, List, Option, None, Some, option_map, slice_get, slice_index_or, count_by}
use Rattle.std.specs.Option.{option_and_then}
use Rattle.std.specs.Str.{bytes_eq}
use Rattle.tk_io.specs.Faults.{Rose}
use Rattle.source_api.specs.declared.ledger.PlaceCounts.{PlaceCounts}
use Rattle.query_text.specs.declared.query.Query.{Query}
use Rattle.cert_text.specs.declared.outcome.Outcome.{Outcome}
use Rattle.cert_text.specs.declared.outcome.Outcome.TheVariants.{Answered, Refused}
use Rattle.cert_text.specs.declared.refusal.Refusal.{Refusal}
use Rattle.cert_text.specs.declared.refusal.Refusal.TheVariants.{NotOpened, Failed, Garbled, Moved}
use Rattle.catalog_text.specs.Catalog.{Listed as Entry}
use Rattle.catalog_open.specs.Views.{entry_named}
use Rattle.catalog_open.specs.Entries.{entry_at}
use Rattle.catalog_open.specs.Openings.{Counted, TroubleAt}
use Rattle.query_admission.specs.declared.line_outcome.LineOutcome.{LineOutcome}
use Rattle.catalog_run.specs.Runs.{CatalogRun}

-- the place on the shelf of a list of a query, by the entry of its name
abbrev pub place_at : List Entry → Query → ℕ → Option (List ℕ)
place_at catalog query list = option_map (λ entry. (entry_at catalog entry).place) (option_and_then (entry_named catalog) (slice_get query.names list))

-- the list that a refusal says wasn't opened, failed, was garbled or was replaced
abbrev pub failed_list : Refusal → Option ℕ
failed_list (NotOpened list) = Some list
failed_list (Failed list) = Some list
failed_list (Garbled list) = Some list
failed_list (Moved list had now) = Some list
failed_list other = None

-- the count behind such a refusal rose at a place, or stands at its last value: while the sources were opened, of calls that take a source, or of its
-- sources' faults or garbled answers; while the lines ran, of its sources' faults; of their garbled answers; of their answers of another version
abbrev pub HasRisen : (before mid after : PlaceCounts) → Refusal → Type 0
HasRisen before mid after (NotOpened list) = TroubleAt before mid
HasRisen before mid after (Failed list) = Rose mid.sources.faults after.sources.faults
HasRisen before mid after (Garbled list) = Rose mid.sources.garbles after.sources.garbles
HasRisen before mid after (Moved list had now) = Rose mid.sources.moves after.sources.moves
HasRisen before mid after other = Unit {0}

-- a refusal for a replaced list names this version as the one that the list had
abbrev pub NamesVersion : ℕ → Refusal → Type 0
NamesVersion version (Moved list had now) = had ≡ version
NamesVersion version other = Unit {0}

-- the outcome comes with the query that has this list, a replaced one names its version at opening, and in a run whose sources had been opened when so much was counted the count behind the
-- refusal rose at the list's place
pub record HasFailedAt (r : CatalogRun) (mid : Counted) (o : LineOutcome) (refusal : Refusal) (list : ℕ) : Type 0 where
  pub query : Query
  pub query_is : o.query ≡ Some query
  pub place : List ℕ
  pub place_is : place_at r.catalog query list ≡ Some place
  pub risen : HasRisen (r.before place) (mid place) (r.after place) refusal
  pub had : NamesVersion (slice_index_or o.versions list 0) refusal

-- where a line is refused for a list that wasn't opened, failed, was garbled or was replaced, the count behind that rose: in the opening, or in the running
abbrev pub HasFailure : CatalogRun → Counted → LineOutcome → Type 0
HasFailure r mid o =
    (refusal : Refusal) (list : ℕ) → o.outcome ≡ Refused refusal → failed_list refusal ≡ Some list → HasFailedAt r mid o refusal list

-- whether a refusal says that a call of a list failed; that one was answered by garbled data
abbrev pub says_failed : Refusal → Bool
says_failed (Failed list) = true
says_failed other = false

abbrev pub says_garbled : Refusal → Bool
says_garbled (Garbled list) = true
says_garbled other = false

-- whether a list is of this place
abbrev pub is_place : List ℕ → Option (List ℕ) → Bool
is_place place None = false
is_place place (Some other) = bytes_eq other place

-- whether an outcome, with its query, is a refusal that says so of a list of this place
abbrev pub refused_at : List Entry → (Refusal → Bool) → List ℕ → Option Query → Outcome → Bool
refused_at catalog says place query (Answered answer) = false
refused_at catalog says place query (Refused refusal) =
    says refusal && is_place place (option_and_then (λ q. option_and_then (place_at catalog q) (failed_list refusal)) query)

abbrev pub is_refused_at : List Entry → (Refusal → Bool) → List ℕ → LineOutcome → Bool
is_refused_at catalog says place o = refused_at catalog says place o.query o.outcome

-- so many lines are no more than the workers times what a count rose by, unless the count stands at its last value
abbrev pub AreFew : (workers lines before now : ℕ) → Type 0
AreFew workers lines before now = (2 ^ 64 - 1 ≤ now) ⊎ (lines ≤ workers * (now - before))

-- the lines that are refused because a call of a source of this place failed are no more than the workers times such calls, and so are those that are
-- refused because one was answered by garbled data
pub record RefusesFew (r : CatalogRun) (outcomes : List LineOutcome) (place : List ℕ) : Type 0 where
  pub failed : AreFew r.settings.workers (count_by (is_refused_at r.catalog says_failed place) outcomes)
      (r.before place).sources.faults (r.after place).sources.faults
  pub garbled : AreFew r.settings.workers (count_by (is_refused_at r.catalog says_garbled place) outcomes)
      (r.before place).sources.garbles (r.after place).sources.garbles
