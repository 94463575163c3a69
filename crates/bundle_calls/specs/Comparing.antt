-- Comparisons as the code keeps them.
use Rattle.std.specs.Prelude.{◌≡◌, ℕ, true, List, [], ◌∷◌, ◌++◌, length, replicate, codes}
use Rattle.std.specs.List.{concat}
use Rattle.std.specs.Fmt.{decimal}
use Rattle.ranked_list.specs.declared.row.Row.{Row}
use Rattle.ranked_list.specs.Table.{IsTable}
use Rattle.monotone_fn.specs.declared.costs.Costs.{Costs}
use Rattle.monotone_fn.specs.Shape.{list_count}
use Rattle.topk_theory.specs.declared.access.Access.{Access}
use Rattle.topk_theory.specs.Transcript.{depth, sorted_count, random_count, cost}
use Rattle.access_log.specs.Log.{Log}
use Rattle.query_text.specs.declared.algorithm.Algorithm.{Algorithm}
use Rattle.query_text.specs.declared.algorithm.Algorithm.TheVariants.{Ta, Nra, Ca, Fa}
use Rattle.query_text.specs.declared.query.Query.{Query}
use Rattle.query_text.specs.Shape.{algorithm_word}
use Rattle.query_text.specs.Costs.{costs_in_force}
use Rattle.query_core.specs.declared.ready.Ready.{Ready}
use Rattle.query_core.specs.Ready.{IsReady}
use Rattle.command_line.specs.declared.status.Status.{Status}
use Rattle.command_line.specs.declared.status.Status.TheVariants.{Done}
use Rattle.bundle_calls.specs.declared.figures.Figures.{Figures}
use Rattle.bundle_calls.specs.declared.figures.Compared.{Compared as FourFigures}
use Rattle.bundle_calls.specs.declared.comparing.Comparison.{Comparison}
use Rattle.bundle_calls.specs.declared.comparing.Comparison.TheVariants.{Refused, Compared}
use Rattle.bundle_calls.specs.Outcomes.{reply_text, reply_status, IsWritable}
use Rattle.bundle_calls.specs.Compare.{read_by}

-- a query that is ready, and its lists, which are a table of its count and can all be read in order
pub record IsOver (r : Ready) (D : List (List Row)) : Type 0 where
  pub ready : IsReady r
  pub table : IsTable r.count D
  pub lists : length D ≡ list_count r.query.expr
  pub in_order : r.sorted.items ≡ replicate (length r.query.names) true

-- the figures of accesses to m lists at these costs
abbrev pub figures_from : Costs → ℕ → List Access → Figures
figures_from costs m A = record {
  depth = depth m A;
  sorted = sorted_count A;
  random = random_count A;
  cost = cost costs.sorted costs.random A;
}

-- those of a transcript of a query, and of what an algorithm reads for it over lists
abbrev pub figures_of : Query → Log → Figures
figures_of query log = figures_from (costs_in_force query) log.lists log.accesses

abbrev pub figures_by : Algorithm → Query → List (List Row) → Figures
figures_by algorithm query lists = figures_from (costs_in_force query) (length lists) (read_by algorithm query lists)

-- those of the four algorithms
abbrev pub compared_by : Query → List (List Row) → FourFigures
compared_by query lists = record {
  ta = figures_by Ta query lists;
  nra = figures_by Nra query lists;
  ca = figures_by Ca query lists;
  fa = figures_by Fa query lists;
}

-- the line of an algorithm, and those of the four
abbrev pub figures_text : Algorithm → Figures → List ℕ
figures_text algorithm figures =
    concat (algorithm_word algorithm ∷ codes " depth " ∷ decimal figures.depth ∷ codes " sorted " ∷ decimal figures.sorted
    ∷ codes " random " ∷ decimal figures.random ∷ codes " cost " ∷ decimal figures.cost ∷ codes "\n" ∷ [])

abbrev pub compared_text : FourFigures → List ℕ
compared_text compared = figures_text Ta compared.ta ++ (figures_text Nra compared.nra ++ (figures_text Ca compared.ca ++ figures_text Fa compared.fa))

-- the text of a comparison, and its status
abbrev pub comparison_text : Comparison → List ℕ
comparison_text (Refused reply) = reply_text reply
comparison_text (Compared compared) = compared_text compared

abbrev pub comparison_status : Comparison → Status
comparison_status (Refused reply) = reply_status reply
comparison_status (Compared compared) = Done

-- a comparison can be written
abbrev pub IsSayable : Comparison → Type 0
IsSayable (Refused reply) = IsWritable reply
IsSayable (Compared compared) = Unit {0}

-- a comparison can be written, and is such a reply
pub record MayBeSaid (replies : Status → List ℕ → Type 0) (comparison : Comparison) : Type 0 where
  pub sayable : IsSayable comparison
  pub replied : replies (comparison_status comparison) (comparison_text comparison)
