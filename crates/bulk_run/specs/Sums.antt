-- The sums of made queries over a made table, whatever order they are run in.
use Rattle.std.specs.Prelude.{◌≤◌, ℕ, List, length}
use Rattle.std.specs.List.{sum_by, range_with_len}
use Rattle.ranked_list.specs.declared.row.Row.{Row}
use Rattle.topk_theory.specs.Transcript.{depth, sorted_count, random_count}
use Rattle.made_inputs.specs.Made.{made_table}
use Rattle.query_text.specs.declared.query.Query.{Query}
use Rattle.made_inputs.specs.MadeQueries.{made_query}
use Rattle.query_core.specs.OneAnswer.{one_run, one_items}
use Rattle.bulk_run.specs.declared.input.BulkInput.{BulkInput}
use Rattle.bulk_run.specs.declared.sums.BulkSums.{BulkSums}
use Rattle.topk_base.specs.declared.TheConstants.{MAX_LISTS, MAX_OBJECTS, MAX_QUERIES}

-- the numbers are within the limits
pub record IsInput (input : BulkInput) : Type 0 where
  pub some_objects : 1 ≤ input.count
  pub few_objects : input.count ≤ MAX_OBJECTS
  pub some_lists : 1 ≤ input.lists
  pub few_lists : input.lists ≤ MAX_LISTS
  pub few_queries : input.queries ≤ MAX_QUERIES

-- the table, and the query with a number from 0
abbrev pub table_of : BulkInput → List (List Row)
table_of input = made_table input.start input.count input.lists

abbrev pub query_of : BulkInput → ℕ → Query
query_of input number = made_query number input.count input.lists

-- a figure of the queries over the table, in a sum over all of them
abbrev pub summed : BulkInput → (Query → List (List Row) → ℕ) → ℕ
summed input figure = sum_by (λ number. figure (query_of input number) (table_of input)) (range_with_len 0 input.queries)

-- figures of a query over a table: the depth, the sorted and the random accesses of its one run, and the lower bounds of the items of its
-- one answer
abbrev pub run_depth : Query → List (List Row) → ℕ
run_depth q D = depth (length D) (one_run q D)

abbrev pub run_sorted : Query → List (List Row) → ℕ
run_sorted q D = sorted_count (one_run q D)

abbrev pub run_random : Query → List (List Row) → ℕ
run_random q D = random_count (one_run q D)

abbrev pub answer_value : Query → List (List Row) → ℕ
answer_value q D = sum_by (λ item. item.low) (one_items q D)

-- the sums: all queries are answered
abbrev pub bulk_sums : BulkInput → BulkSums
bulk_sums input = record {
  queries = input.queries;
  answered = input.queries;
  depth = summed input run_depth;
  sorted = summed input run_sorted;
  random = summed input run_random;
  values = summed input answer_value;
}
