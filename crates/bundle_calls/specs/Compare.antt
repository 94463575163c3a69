-- What each algorithm reads for the query of a bundle.
use Rattle.std.specs.Prelude.{◌≡◌, ◌≤◌, ◌⊎◌, ℕ, List, [], ◌∷◌, ◌++◌, length, codes, Option, None, Ok}
use Rattle.std.specs.List.{concat}
use Rattle.std.specs.Fmt.{decimal}
use Rattle.topk_base.specs.Lines.{lines}
use Rattle.ranked_list.specs.declared.row.Row.{Row}
use Rattle.monotone_fn.specs.declared.costs.Costs.{Costs}
use Rattle.topk_theory.specs.declared.access.Access.{Access}
use Rattle.topk_theory.specs.Transcript.{depth, sorted_count, random_count, cost}
use Rattle.machine_base.specs.declared.answer.Answer.{Answer}
use Rattle.query_text.specs.declared.algorithm.Algorithm.{Algorithm}
use Rattle.query_text.specs.declared.algorithm.Algorithm.TheVariants.{Ta, Nra, Ca, Fa}
use Rattle.query_text.specs.declared.query.Query.{Query}
use Rattle.query_text.specs.Shape.{algorithm_word}
use Rattle.query_text.specs.Query.{printed}
use Rattle.query_text.specs.Reading.{Reads}
use Rattle.query_text.specs.Costs.{costs_in_force}
use Rattle.bundle_text.specs.Bundle.{Content, Spells}
use Rattle.cert_text.specs.declared.refusal.Refusal.{Refusal}
use Rattle.cert_text.specs.declared.outcome.Outcome.TheVariants.{Refused}
use Rattle.cert_text.specs.Outcome.{outcome_text}
use Rattle.query_core.specs.OneAnswer.{one_run}
use Rattle.query_admission.specs.View.{AreTold}
use Rattle.query_admission.specs.Causes.{admission_causes, RefusesFor, NoneOf}
use Rattle.query_admission.specs.Admission.{RefusesLine}
use Rattle.query_admission.specs.Becomes.{AnswersLine}
use Rattle.command_line.specs.declared.status.Status.{Status}
use Rattle.command_line.specs.declared.status.Status.TheVariants.{Done, Partial}
use Rattle.bundle_calls.specs.Bundled.{bundle_view, bundle_line}
use Rattle.bundle_calls.specs.Reply.{RefusesBundle}

-- the query as it is asked by an algorithm, with no room stated
abbrev pub query_by : Algorithm → Query → Query
query_by algorithm query = record query { algorithm = algorithm; room = None }

-- what an algorithm reads for a query over its lists: its one run
abbrev pub read_by : Algorithm → Query → List (List Row) → List Access
read_by algorithm query lists = one_run (query_by algorithm query) lists

-- how deep it reads
abbrev pub depth_by : Algorithm → Query → List (List Row) → ℕ
depth_by algorithm query lists = depth (length lists) (read_by algorithm query lists)

-- `NAME depth D sorted S random R cost C`, of accesses to m lists at these costs
abbrev pub line_of : Algorithm → Costs → ℕ → List Access → List ℕ
line_of algorithm costs m A =
    concat (algorithm_word algorithm ∷ codes " depth " ∷ decimal (depth m A) ∷ codes " sorted " ∷ decimal (sorted_count A)
    ∷ codes " random " ∷ decimal (random_count A) ∷ codes " cost " ∷ decimal (cost costs.sorted costs.random A) ∷ codes "\n" ∷ [])

-- the line of an algorithm for a query over its lists, at what accesses cost the query
abbrev pub line_by : Algorithm → Query → List (List Row) → List ℕ
line_by algorithm query lists = line_of algorithm (costs_in_force query) (length lists) (read_by algorithm query lists)

-- the lines of the four algorithms
abbrev pub compare_text : Query → List (List Row) → List ℕ
compare_text query lists = line_by Ta query lists ++ (line_by Nra query lists ++ (line_by Ca query lists ++ line_by Fa query lists))

-- the query line of a bundle is refused before it runs, and the text is that of the refusal, as line 1
pub record RefusesQuery (content : Content) (status : Status) (text : List ℕ) : Type 0 where
  pub refusal : Refusal
  pub query : Option Query
  pub refused : RefusesLine admission_causes (bundle_line content) refusal query
  pub status_is : status ≡ Partial
  pub text_is : text ≡ outcome_text 1 query 0 [] (Refused refusal)

-- nothing refuses the query line of a bundle before it runs, and the text is that of what each algorithm reads for its query over the lists
-- that it names; the threshold algorithm reads no deeper than Fagin's
pub record ComparesQuery (content : Content) (status : Status) (text : List ℕ) : Type 0 where
  pub unrefused : NoneOf (RefusesFor (bundle_line content)) admission_causes
  pub query : Query
  pub reads : Reads content.query (Ok query)
  pub lists : List (List Row)
  pub told : AreTold (bundle_view content) query lists
  pub no_deeper : depth_by Ta query lists ≤ depth_by Fa query lists
  pub status_is : status ≡ Done
  pub text_is : text ≡ compare_text query lists

-- the status and the text that a bundle is compared with
abbrev pub ComparesBundle : Content → Status → List ℕ → Type 0
ComparesBundle content status text = RefusesQuery content status text ⊎ ComparesQuery content status text

-- the status and the text that an input of these bytes is compared with: its lines are no bundle's, or those of one that is compared
abbrev pub Compares : List ℕ → Status → List ℕ → Type 0
Compares bytes status text =
    RefusesBundle (lines bytes) status text ⊎ ((content : Content) × Spells (lines bytes) content × ComparesBundle content status text)

-- where `one` answers the bundle whose query line asks for one of the algorithms, and states no room, the line that is written of this algorithm
-- is that of the answer's accesses
abbrev pub ComparedAreAnswered : Type 0
ComparedAreAnswered =
    (content : Content) (query : Query) (algorithm : Algorithm) (count : ℕ) (versions : List ℕ) (answer : Answer) (lists : List (List Row))
    → AreTold (bundle_view content) query lists
    → AnswersLine (bundle_line (record content { query = printed (query_by algorithm query) })) (query_by algorithm query) count versions answer
    → line_by algorithm query lists ≡ line_of algorithm (costs_in_force query) answer.transcript.lists answer.transcript.accesses
