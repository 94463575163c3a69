-- What is replied to query lines over a catalog.
use Rattle.std.specs.Prelude.{◌≡◌, ◌⊎◌, ◌++◌, ◌+◌, ℕ, Bool, true, false, List, [], ◌∷◌, codes, Err, if◌then◌else◌}
use Rattle.std.specs.List.{concat, list_all}
use Rattle.std.specs.Fmt.{decimal}
use Rattle.topk_base.specs.Lines.{lines}
use Rattle.csv_records.specs.Records.{records_of}
use Rattle.catalog_text.specs.Catalog.{Listed as Entry, IsCatalog}
use Rattle.catalog_text.specs.Judging.{Judges}
use Rattle.catalog_text.specs.declared.catalog.CatalogFault.{CatalogFault}
use Rattle.catalog_text.specs.declared.catalog.CatalogFault.TheVariants.{CatalogLine, SameName}
use Rattle.cert_text.specs.declared.outcome.Outcome.{Outcome}
use Rattle.cert_text.specs.declared.outcome.Outcome.TheVariants.{Answered, Refused}
use Rattle.cert_text.specs.Outcome.{outcome_text}
use Rattle.topk_base.specs.declared.settings.Settings.{Settings}
use Rattle.query_admission.specs.declared.line_outcome.LineOutcome.{LineOutcome}
use Rattle.catalog_run.specs.Runs.{CatalogRun, IsRun}
use Rattle.command_line.specs.declared.status.Status.{Status}
use Rattle.command_line.specs.declared.status.Status.TheVariants.{Done, Partial}
use Rattle.command_line.specs.Shelves.{Shelf}
use Rattle.catalog_run.specs.Taking.{TakesSources}

-- the run of lines over a catalog, by what the shelf was before and afterwards
abbrev pub lines_run : Settings → List Entry → List (List ℕ) → Shelf → Shelf → CatalogRun
lines_run settings catalog lines before after = record {
  catalog = catalog;
  lines = lines;
  lists = before.lists;
  versions = before.versions;
  settings = settings;
  before = before.at;
  after = after.at;
}

-- whether an outcome is an answer
abbrev pub is_answer : Outcome → Bool
is_answer (Answered answer) = true
is_answer (Refused refusal) = false

-- the status of outcomes: done exactly where each line is answered
abbrev pub run_status : List LineOutcome → Status
run_status outcomes = if list_all (λ o. is_answer o.outcome) outcomes then Done else Partial

-- the text of the outcome of the line with this number
abbrev pub line_text : ℕ → LineOutcome → List ℕ
line_text number o = outcome_text number o.query o.count o.versions o.outcome

-- the texts of the outcomes of lines, one after another; the lines are numbered from this number on
abbrev pub outcomes_text : ℕ → List LineOutcome → List ℕ
outcomes_text number [] = []
outcomes_text number (o ∷ outcomes) = outcome_text number o.query o.count o.versions o.outcome ++ outcomes_text (number + 1) outcomes

-- `refused catalog NAME RECORD`
abbrev pub catalog_refused_text : List ℕ → ℕ → List ℕ
catalog_refused_text name record_number = concat (codes "refused catalog " ∷ name ∷ codes " " ∷ decimal record_number ∷ codes "\n" ∷ [])

-- the first record at fault of a text that is no catalog has this fault, and what is said names both
pub record NamesRecord (text said : List ℕ) (fault : ℕ → CatalogFault) (name : List ℕ) : Type 0 where
  pub number : ℕ
  pub first : Judges (records_of text) (Err (fault number))
  pub said_is : said ≡ catalog_refused_text name number

-- the text is no catalog, and what is said names its first record at fault: the form is wrong, or the name is that of an earlier one
abbrev pub RefusesCatalog : List ℕ → List ℕ → Type 0
RefusesCatalog text said =
    NamesRecord text said (λ line. CatalogLine line) (codes "CatalogLine") ⊎ NamesRecord text said (λ line. SameName line) (codes "SameName")

-- the text is a catalog, over which the lines of these bytes were run: what is said is the texts of their outcomes
pub record RepliesToLines (settings : Settings) (text bytes : List ℕ) (before after : Shelf) (status : Status) (said : List ℕ) : Type 0 where
  pub catalog : List Entry
  pub is : IsCatalog (records_of text) catalog
  pub takes : TakesSources catalog (lines bytes) before after
  pub outcomes : List LineOutcome
  pub run : IsRun (lines_run settings catalog (lines bytes) before after) outcomes
  pub status_is : status ≡ run_status outcomes
  pub said_is : said ≡ outcomes_text 1 outcomes
