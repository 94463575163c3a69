-- What the answers of a run promise, whatever its sources told.
use Rattle.std.specs.Prelude.{◌≡◌, ℕ, Bool, false, Some, List, map, option_map, unwrap_or}
use Rattle.ranked_list.specs.declared.row.Row.{Row}
use Rattle.ranked_list.specs.Table.{IsTable}
use Rattle.topk_theory.specs.Threshold.{item_objects}
use Rattle.access_log.specs.Log.{AgreesWith}
use Rattle.machine_base.specs.declared.answer.Answer.{Answer}
use Rattle.query_text.specs.declared.query.Query.{Query}
use Rattle.cert_text.specs.declared.certificate.Certificate.{Certificate}
use Rattle.cert_text.specs.declared.outcome.Outcome.TheVariants.{Answered}
use Rattle.cert_text.specs.Certificate.{guaranteed}
use Rattle.cert_text.specs.Outcome.{certificate_of}
use Rattle.query_core.specs.Methods.{Method, method_with, IsGoodBy}
use Rattle.query_core.specs.OneAnswer.{asked_by, IsAnsweredWith, IsOneAnswerWith}
use Rattle.query_admission.specs.View.{AreTold}
use Rattle.query_admission.specs.declared.line_outcome.LineOutcome.{LineOutcome}
use Rattle.catalog_text.specs.Catalog.{Listed as Entry}
use Rattle.catalog_open.specs.Views.{entry_named}
use Rattle.catalog_open.specs.Entries.{entry_at}
use Rattle.catalog_run.specs.Runs.{CatalogRun}
use Rattle.topk_top.specs.ToldTables.{view_told}

-- whether the list of a name can be read in order, by a catalog
abbrev pub is_sorted : List Entry → List ℕ → Bool
is_sorted catalog name = unwrap_or (option_map (λ place. (entry_at catalog place).sorted) (entry_named catalog name)) false

-- by what a query runs over the lists of a catalog: by its algorithm, and of each of its lists by whether it can be read in order
abbrev pub method_in : List Entry → Query → Method
method_in catalog query = method_with query.algorithm (map (is_sorted catalog) query.names)

-- the objects of a certificate's answer are as good on a table as it says: k objects that none outside beats, or by no more than its guarantee
abbrev pub IsGoodAsPrinted : Certificate → List (List Row) → Type 0
IsGoodAsPrinted c D = IsGoodBy (guaranteed c) (asked_by c.query) D (item_objects c.items)

-- an answer is right for a query over lists of a catalog: some table agrees with its transcript, and on every table that agrees it is the one answer, and as good
-- as its certificate says
pub record IsRightAnswer (catalog : List Entry) (query : Query) (count : ℕ) (versions : List ℕ) (answer : Answer) : Type 0 where
  pub answered : IsAnsweredWith (method_in catalog query) query count answer
  pub printed : (line : ℕ) (D : List (List Row)) → AgreesWith D answer.transcript
      → IsGoodAsPrinted (certificate_of line query count versions answer) D

-- where a line is answered the answer is right for its query
abbrev pub IsRightLine : CatalogRun → LineOutcome → Type 0
IsRightLine r o =
    (answer : Answer) → o.outcome ≡ Answered answer → (query : Query) × (o.query ≡ Some query) × IsRightAnswer r.catalog query o.count o.versions answer

-- where a line is answered, and the shelf tells the lists of its query, which form a table, it is answered by the one answer over them
abbrev pub IsOneOverTold : CatalogRun → LineOutcome → Type 0
IsOneOverTold r o =
    (query : Query) (answer : Answer) (D : List (List Row)) → o.query ≡ Some query → o.outcome ≡ Answered answer
    → AreTold (view_told r.catalog r.lists r.versions) query D → IsTable o.count D → IsOneAnswerWith (method_in r.catalog query) query D answer
