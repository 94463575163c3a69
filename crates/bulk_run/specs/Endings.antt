-- What the endings of queries come to.
use Rattle.std.specs.Prelude.{◌≡◌, ◌<◌, ◌≤◌, ◌^◌, ◌+◌, ◌*◌, ℕ, Bool, true, false, List, length, replicate, count_by}
use Rattle.std.specs.List.{sum_by, range_with_len, AllZip}
use Rattle.ranked_list.specs.declared.row.Row.{Row}
use Rattle.topk_theory.specs.Transcript.{list_numbers, depth, sorted_count, random_count}
use Rattle.access_log.specs.Log.{AgreesWith}
use Rattle.machine_base.specs.declared.answer.Answer.{Answer}
use Rattle.query_text.specs.declared.query.Query.{Query}
use Rattle.query_core.specs.declared.ready.Ready.{Ready}
use Rattle.query_core.specs.Ready.{IsReady}
use Rattle.query_core.specs.OneAnswer.{IsOneAnswer}
use Rattle.query_run.specs.declared.ended.Ended.{Ended}
use Rattle.query_run.specs.declared.ended.Ended.TheVariants.{Answered, Core, Look}
use Rattle.bulk_run.specs.declared.input.BulkInput.{BulkInput}
use Rattle.bulk_run.specs.declared.sums.BulkSums.{BulkSums}
use Rattle.bulk_run.specs.Sums.{table_of, query_of}
use Rattle.topk_base.specs.declared.TheConstants.{MAX_QUERIES}

-- the query with a number is ready to run over the lists of the table, in their order, all of which can be read in order
pub record IsMadeReady (input : BulkInput) (number : ℕ) (ready : Ready) : Type 0 where
  pub is : IsReady ready
  pub query : ready.query ≡ query_of input number
  pub count : ready.count ≡ input.count
  pub sources : ready.sources.items ≡ list_numbers input.lists
  pub sorted : ready.sorted.items ≡ replicate (length ready.query.names) true

-- the queries are ready, in the order of their numbers
abbrev pub AreMadeReady : BulkInput → List Ready → Type 0
AreMadeReady input readies = AllZip (IsMadeReady input) (range_with_len 0 input.queries) readies

-- a query ended with its one answer over a table, which agrees with its transcript
abbrev pub EndsInOne : Query → List (List Row) → Ended → Type 0
EndsInOne q D (Answered answer) = IsOneAnswer q D answer × AgreesWith D answer.transcript
EndsInOne _ _ _ = ⊥

-- each query ended with its one answer
abbrev pub AllEndInOne : BulkInput → List Ended → Type 0
AllEndInOne input endings = AllZip (λ number. EndsInOne (query_of input number) (table_of input)) (range_with_len 0 input.queries) endings

-- figures of an answer
abbrev pub answer_depth : Answer → ℕ
answer_depth answer = depth answer.transcript.lists answer.transcript.accesses

abbrev pub answer_sorted : Answer → ℕ
answer_sorted answer = sorted_count answer.transcript.accesses

abbrev pub answer_random : Answer → ℕ
answer_random answer = random_count answer.transcript.accesses

abbrev pub answer_lows : Answer → ℕ
answer_lows answer = sum_by (λ item. item.low) answer.items

-- a figure of an ending; nothing where the query was refused
abbrev pub figure_of : (Answer → ℕ) → Ended → ℕ
figure_of figure (Answered answer) = figure answer
figure_of _ _ = 0

abbrev pub is_answered : Ended → Bool
is_answered (Answered answer) = true
is_answered _ = false

-- the sums over endings
abbrev pub sums_over : List Ended → BulkSums
sums_over endings = record {
  queries = length endings;
  answered = count_by is_answered endings;
  depth = sum_by (figure_of answer_depth) endings;
  sorted = sum_by (figure_of answer_sorted) endings;
  random = sum_by (figure_of answer_random) endings;
  values = sum_by (figure_of answer_lows) endings;
}

-- the sums with one more answer, and with one more ending
abbrev pub with_answer : Answer → BulkSums → BulkSums
with_answer answer sums = record {
  queries = sums.queries;
  answered = sums.answered + 1;
  depth = sums.depth + answer_depth answer;
  sorted = sums.sorted + answer_sorted answer;
  random = sums.random + answer_random answer;
  values = sums.values + answer_lows answer;
}

abbrev pub with_query : BulkSums → BulkSums
with_query sums = record sums { queries = sums.queries + 1 }

abbrev pub with_ending : Ended → BulkSums → BulkSums
with_ending (Answered answer) sums = with_query (with_answer answer sums)
with_ending (Core fault) sums = with_query sums
with_ending (Look list fault) sums = with_query sums

-- no figure of an ending is so great that a sum over many of them passes 64 bits
pub record IsSmall (ending : Ended) : Type 0 where
  pub depth : figure_of answer_depth ending ≤ 2 ^ 32
  pub sorted : figure_of answer_sorted ending ≤ 2 ^ 32
  pub random : figure_of answer_random ending ≤ 2 ^ 32
  pub values : figure_of answer_lows ending ≤ 2 ^ 32

-- the sums may get one more
pub record HasRoom (sums : BulkSums) : Type 0 where
  pub queries : sums.queries < MAX_QUERIES
  pub answered : sums.answered ≤ sums.queries
  pub depth : sums.depth ≤ sums.queries * 2 ^ 32
  pub sorted : sums.sorted ≤ sums.queries * 2 ^ 32
  pub random : sums.random ≤ sums.queries * 2 ^ 32
  pub values : sums.values ≤ sums.queries * 2 ^ 32
