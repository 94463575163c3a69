-- How much a query asks of its sources: what is certain by what it read.
use Rattle.std.specs.Prelude.{◌≡◌, ◌≢◌, ◌==◌, ◌&&◌, ◌≤◌, ◌<◌, ◌+◌, ◌⊎◌, ℕ, Bool, not, List, ◌++◌, All, AllPairs, length, count_by, Contains}
use Rattle.ranked_list.specs.declared.row.Row.{Row}
use Rattle.ranked_list.specs.declared.need.Need.{Need}
use Rattle.ranked_list.specs.declared.need.Need.TheVariants as need
use Rattle.turn_lock.specs.declared.known.Known.{Known}
use Rattle.topk_theory.specs.declared.access.Access.{Access}
use Rattle.topk_theory.specs.Transcript.{list_of, is_sorted}
use Rattle.machine_base.specs.Machine.{asked_of}
use Rattle.machine_base.specs.Certain.{IsCertain}
use Rattle.source_state.specs.declared.entry.LogEntry.{LogEntry}
use Rattle.query_core.specs.Methods.{run_with}
use Rattle.query_core.specs.Machines.{method_of, state_of}
use Rattle.query_run.specs.declared.running_query.RunningQuery.{RunningQuery}
use Rattle.query_run.specs.Inquiries.{source_of}

-- a need is certain for a query: on every table that agrees with what it read the run of its algorithm meets it
abbrev pub IsCertainFor : RunningQuery → Need → Type 0
IsCertainFor q need = IsCertain (run_with (method_of q.machine)) (state_of q.machine) need

-- the run of a query on a table; an access asks this source for a grade; how many of the run do
abbrev pub run_on : RunningQuery → List (List Row) → List Access
run_on q D = run_with (method_of q.machine) (asked_of (state_of q.machine)) D

abbrev pub is_grade_of : RunningQuery → ℕ → Access → Bool
is_grade_of q source access = not (is_sorted access) && (source_of q (list_of access) == source)

abbrev pub grades_on : RunningQuery → ℕ → List (List Row) → ℕ
grades_on q source D = count_by (is_grade_of q source) (run_on q D)

-- so many rows at least of a list that this source has are certain
pub record IsAskedFor (q : RunningQuery) (source depth : ℕ) : Type 0 where
  pub list : ℕ
  pub listed : list < length q.sources.items
  pub of : source_of q list ≡ source
  pub deep : IsCertainFor q (need.Row list depth)

-- the grade of this object in a list that this source has is certain
pub record AsksGradeOf (q : RunningQuery) (source object : ℕ) : Type 0 where
  pub list : ℕ
  pub listed : list < length q.sources.items
  pub of : source_of q list ≡ source
  pub asks : IsCertainFor q (need.Grade list object)

-- what a query wanted of a source through a pass: it raised the mark no further than is certain, if at all; and it added no more asks than there are
-- these objects, each once, none of which the pass had met and all of which it has now, and the grade of each of them is certain
pub record Wanted (q : RunningQuery) (source : ℕ) (before after : Known LogEntry) : Type 0 where
  pub rows : (after.high ≤ before.high) ⊎ IsAskedFor q source after.high
  pub news : List ℕ
  pub mine : after.mine ≡ before.mine ++ news
  pub grades : after.asked ≤ before.asked + length news
  pub apart : AllPairs (λ (one other : ℕ). one ≢ other) news
  pub unmet : All (λ object. ¬ Contains before.met object) news
  pub met : All (Contains after.met) news
  pub each : All (AsksGradeOf q source) news
