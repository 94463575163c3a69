-- What becomes of a query line.
use Rattle.std.specs.Prelude.{◌≡◌, ℕ, List, Option, None, Some, Ok}
use Rattle.ranked_list.specs.declared.row.Row.{Row}
use Rattle.access_log.specs.Log.{AgreesWith}
use Rattle.machine_base.specs.declared.answer.Answer.{Answer}
use Rattle.query_text.specs.declared.query.Query.{Query}
use Rattle.query_text.specs.Reading.{Reads}
use Rattle.cert_text.specs.declared.outcome.Outcome.{Outcome}
use Rattle.cert_text.specs.declared.outcome.Outcome.TheVariants.{Answered, Refused}
use Rattle.query_core.specs.OneAnswer.{IsAnsweredWith}
use Rattle.query_admission.specs.View.{AreListed, AreTold, versions_at, method_over, count_of}
use Rattle.query_admission.specs.Causes.{QueryLine, line_causes, RefusesFor, NoneOf}
use Rattle.query_admission.specs.Admission.{RefusesLine}
use Rattle.query_admission.specs.declared.lists.ListInfo.{ListInfo}

-- nothing refuses the line, and its query is answered over lists of so many objects, which had these versions when they were opened: the answer is right,
-- and where the rows of its lists are told they agree with its transcript
pub record AnswersLine (x : QueryLine) (q : Query) (count : ℕ) (versions : List ℕ) (answer : Answer) : Type 0 where
  pub unrefused : NoneOf (RefusesFor x) line_causes
  pub reads : Reads x.bytes (Ok q)
  pub lists : List ListInfo
  pub listed : AreListed x.view q lists
  pub counted : count_of lists ≡ Some count
  pub opened : versions_at lists ≡ versions
  pub right : IsAnsweredWith (method_over q lists) q count answer
  pub agrees : (D : List (List Row)) → AreTold x.view q D → AgreesWith D answer.transcript

-- what becomes of a line: the query that it spells, where it was read; the count and the versions of its lists, where it's answered; and the outcome
abbrev pub Becomes : QueryLine → Option Query → ℕ → List ℕ → Outcome → Type 0
Becomes x query count versions (Refused refusal) = RefusesLine line_causes x refusal query
Becomes x (Some q) count versions (Answered answer) = AnswersLine x q count versions answer
Becomes x None count versions (Answered answer) = ⊥
