-- What comes of steps that are honest for lists which form a table for each query.
use Rattle.std.specs.Prelude.{List, All, Contains}
use Rattle.ranked_list.specs.declared.row.Row.{Row}
use Rattle.topk_theory.specs.Transcript.{list_at}
use Rattle.source_state.specs.Log.{rows_in}
use Rattle.source_state.specs.State.{state_at}
use Rattle.test_worlds.specs.declared.step.Step.{Step}
use Rattle.test_worlds.specs.declared.step.Step.TheVariants.{Page, Grade, Miss, Fail, Move, Turn}
use Rattle.test_worlds.specs.Worlds.{WorldState}
use Rattle.query_run.specs.Honest.{IsNextOf, IsTrueFor}

-- a step is honest for the lists of the sources, by their numbers: a page has the next rows, a grade is the list's, nothing is
-- missed, and the list is never replaced
abbrev pub IsHonest : List (List Row) → WorldState → Step → Type 0
IsHonest lists w (Page source rows) = IsNextOf (list_at lists source) (rows_in (state_at w.states source).log) rows
IsHonest lists w (Grade source object grade) = Contains (list_at lists source) (record { object = object; grade = grade })
IsHonest lists w (Miss source object) = ⊥
IsHonest lists w (Fail source what) = Unit {0}
IsHonest lists w (Move source object had now) = ⊥
IsHonest lists w (Turn query) = Unit {0}

abbrev pub IsTrueWorld : List (List Row) → WorldState → Type 0
IsTrueWorld lists w = All (IsTrueFor lists w.states) w.queries
