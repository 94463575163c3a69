-- What contracts see of a query: what it needs, of which source, and what the logs of its sources tell.
use Rattle.std.specs.Prelude.{ℕ, Bool, true, false, ◌||◌, List, map, is_some}
use Rattle.std.specs.List.{slice_index_or}
use Rattle.ranked_list.specs.declared.need.Need.{Need}
use Rattle.ranked_list.specs.declared.need.Need.TheVariants.{Row as RowAt, Grade, Done}
use Rattle.topk_theory.specs.Transcript.{Told}
use Rattle.source_state.specs.declared.entry.LogEntry.{LogEntry}
use Rattle.source_state.specs.State.{State, state_at}
use Rattle.source_state.specs.Drawing.{told_by}
use Rattle.query_core.specs.Machines.{state_of}
use Rattle.query_run.specs.declared.running_query.RunningQuery.{RunningQuery}

-- the logs of some sources, in their order
abbrev pub logs_of : List State → List ℕ → List (List LogEntry)
logs_of states sources = map (λ source. (state_at states source).log) sources

-- what is told of a query's lists by the logs of their sources
abbrev pub told_to : List State → RunningQuery → Told
told_to states q = told_by (logs_of states q.sources.items)

-- what a query needs next; the list of a need, and the source of that list
abbrev pub needed : RunningQuery → Need
needed q = (state_of q.machine).need

abbrev pub list_needed : Need → ℕ
list_needed (RowAt list depth) = list
list_needed (Grade list object) = list
list_needed Done = 0

abbrev pub source_of : RunningQuery → ℕ → ℕ
source_of q list = slice_index_or q.sources.items list 0

abbrev pub source_needed : RunningQuery → ℕ
source_needed q = source_of q (list_needed (needed q))

-- nothing is needed
abbrev pub is_done : Need → Bool
is_done Done = true
is_done _ = false

-- a query has ended where it is refused or needs nothing more
abbrev pub is_ended : RunningQuery → Bool
is_ended q = is_some q.refusal || is_done (needed q)
