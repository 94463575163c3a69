-- The account of a batch: how far its queries read each source, and that no more was used of it.
use Rattle.std.specs.Prelude.{◌≡◌, ◌<◌, ◌≤◌, ◌==◌, ◌&&◌, ℕ, max, Bool, false, not, List, [], ◌∷◌, Contains, length, map, take, filter, fold, count_by}
use Rattle.std.specs.List.{sum_by, slice_index_or}
use Rattle.ranked_list.specs.declared.row.Row.{Row}
use Rattle.topk_theory.specs.declared.access.Access.{Access}
use Rattle.topk_theory.specs.Transcript.{list_of, is_sorted, depth_of, list_numbers}
use Rattle.source_state.specs.Log.{rows_in}
use Rattle.source_state.specs.State.{State}
use Rattle.source_state.specs.Looking.{reach_of}
use Rattle.query_core.specs.declared.ready.Ready.{Ready}
use Rattle.restricted_core.specs.Lists.{reads}
use Rattle.query_text.specs.declared.algorithm.Algorithm.{Algorithm}
use Rattle.query_text.specs.declared.algorithm.Algorithm.TheVariants.{Taz}
use Rattle.query_core.specs.Ready.{method_of_ready}
use Rattle.query_core.specs.OneAnswer.{one_run_with}
use Rattle.query_run.specs.declared.ended.Ended.{Ended}
use Rattle.query_run.specs.declared.ended.Ended.TheVariants as ended
use Rattle.topk_base.specs.declared.settings.Settings.{Settings}
use Rattle.batch_result.specs.declared.batch.Use.{Use}
use Rattle.batch_result.specs.Tables.{lists_for}

-- accesses to lists, which have these sources
pub record Reading : Type 0 where
  pub sources : List ℕ
  pub accesses : List Access

-- the one run of a ready query over its lists; the transcript of an answered query, and no access of a refused one
abbrev pub one_reading : List (List Row) → Ready → Reading
one_reading lists ready = record { sources = ready.sources.items; accesses = one_run_with (method_of_ready ready) ready.query (lists_for lists ready) }

abbrev pub printed_accesses : Ended → List Access
printed_accesses (ended.Answered answer) = answer.transcript.accesses
printed_accesses (ended.Core fault) = []
printed_accesses (ended.Look list fault) = []

abbrev pub printed_reading : Ready → Ended → Reading
printed_reading ready end = record { sources = ready.sources.items; accesses = printed_accesses end }

-- the one runs of ready queries; the transcripts of queries that ended so
abbrev pub one_readings : List (List Row) → List Ready → List Reading
one_readings lists readies = map (one_reading lists) readies

abbrev pub printed_readings : List Ready → List Ended → List Reading
printed_readings (ready ∷ readies) (end ∷ endings) = printed_reading ready end ∷ printed_readings readies endings
printed_readings _ _ = []

-- the greatest of some numbers, 0 where there is none
abbrev pub greatest : List ℕ → ℕ
greatest numbers = fold max 0 numbers

-- the lists that are of a source, by their numbers
abbrev pub lists_of_source : ℕ → List ℕ → List ℕ
lists_of_source source sources = filter (λ list. slice_index_or sources list 0 == source) (list_numbers (length sources))

-- the greatest depth of a list of this source; how many accesses are random ones to it
abbrev pub depth_in : ℕ → Reading → ℕ
depth_in source r = greatest (map (λ list. depth_of list r.accesses) (lists_of_source source r.sources))

abbrev pub is_random_to : ℕ → List ℕ → Access → Bool
is_random_to source sources access = not (is_sorted access) && (slice_index_or sources (list_of access) 0 == source)

abbrev pub random_in : ℕ → Reading → ℕ
random_in source r = count_by (is_random_to source r.sources) r.accesses

-- of a source, the greatest depth of any of these readings, and the random accesses of all of them
abbrev pub deepest : ℕ → List Reading → ℕ
deepest source readings = greatest (map (depth_in source) readings)

abbrev pub random_accesses : ℕ → List Reading → ℕ
random_accesses source readings = sum_by (random_in source) readings

-- what was used of a source of so many objects is within these readings of it: no row was wanted below their greatest depth, and no more rows came than the
-- reach of what was wanted; no more objects were asked than all of them make random accesses, and no more grades came than objects were asked
pub record IsWithin (settings : Settings) (size source : ℕ) (readings : List Reading) (used : Use) : Type 0 where
  pub want : used.want ≤ deepest source readings
  pub rows : used.rows ≤ reach_of used.want settings.page settings.ahead size
  pub asks : used.asks ≤ random_accesses source readings
  pub grades : used.grades ≤ used.asks

-- the rows that a source gave are the first ones of its list, each once: the log keeps as many as were given, and each page began where the rows ended
abbrev pub KeepsEach : List Row → State → Use → Type 0
KeepsEach list s used = rows_in s.log ≡ take used.rows list

-- a query was answered
abbrev pub IsAnAnswer : Ended → Type 0
IsAnAnswer (ended.Answered answer) = Unit {0}
IsAnAnswer (ended.Core fault) = ⊥
IsAnAnswer (ended.Look list fault) = ⊥

-- where a query reads this source, it was answered
abbrev pub IsAnsweredOf : ℕ → Ready → Ended → Type 0
IsAnsweredOf source ready end = Contains ready.sources.items source → IsAnAnswer end

-- an algorithm asks a list for grades alone: it reads in order what can be read so, and this list can't
abbrev pub AsksGradesAlone : Algorithm → List Bool → ℕ → Type 0
AsksGradesAlone Taz sorted list = reads sorted list ≡ false
AsksGradesAlone _ sorted list = ⊥

-- a query asks each of its lists that is of this source for grades alone
abbrev pub IsReadByGrades : ℕ → Ready → Type 0
IsReadByGrades source ready = (list : ℕ) → list < length ready.sources.items → slice_index_or ready.sources.items list 0 ≡ source
    → AsksGradesAlone ready.query.algorithm ready.sorted.items list
