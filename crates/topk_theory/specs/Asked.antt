-- What an algorithm is asked, and what it makes of that and a table.
use Rattle.std.specs.Prelude.{ℕ, List}
use Rattle.ranked_list.specs.declared.row.Row.{Row}
use Rattle.ranked_list.specs.declared.item.Item.{Item}
use Rattle.monotone_fn.specs.declared.costs.Costs.{Costs}
use Rattle.topk_theory.specs.declared.access.Access.{Access}
use Rattle.topk_theory.specs.Threshold.{ta_run, ta_answer}
use Rattle.topk_theory.specs.NoRandom.{nra_run, nra_answer}
use Rattle.topk_theory.specs.Combined.{phase_length, ca_run, ca_answer}

-- what an algorithm is asked: the value of a query's expression at a list of grades, how many objects are wanted, and what accesses cost
pub record Asked : Type 0 where
  pub value : List ℕ → ℕ
  pub k : ℕ
  pub costs : Costs

-- what an algorithm makes of what it is asked and of a table: the accesses of its run, and the items that it answers
abbrev pub Run : Type 0
Run = Asked → List (List Row) → List Access

abbrev pub Answering : Type 0
Answering = Asked → List (List Row) → List Item

-- the run and the answer of the threshold algorithm
abbrev pub threshold_run : Run
threshold_run asked D = ta_run asked.value asked.k D

abbrev pub threshold_answer : Answering
threshold_answer asked D = ta_answer asked.value asked.k D

-- the run and the answer of the algorithm without random access
abbrev pub no_random_run : Run
no_random_run asked D = nra_run asked.value asked.k D

abbrev pub no_random_answer : Answering
no_random_answer asked D = nra_answer asked.value asked.k D

-- the run and the answer of the combined algorithm, whose random phases come by the ratio of the costs
abbrev pub combined_run : Run
combined_run asked D = ca_run asked.value asked.k (phase_length asked.costs.sorted asked.costs.random) D

abbrev pub combined_answer : Answering
combined_answer asked D = ca_answer asked.value asked.k (phase_length asked.costs.sorted asked.costs.random) D
