-- What is certain: accesses that a run makes, however the rest of the table is.
use Rattle.std.specs.Prelude.{◌≡◌, ◌≤◌, ℕ, Option, Some, None, is_none, List, filter, slice_get, Contains}
use Rattle.ranked_list.specs.declared.row.Row.{Row}
use Rattle.ranked_list.specs.declared.need.Need.{Need}
use Rattle.ranked_list.specs.declared.need.Need.TheVariants.{Row as RowAt, Grade, Done}
use Rattle.topk_theory.specs.declared.access.Access.{Access}
use Rattle.topk_theory.specs.declared.access.Access.TheVariants.{Random}
use Rattle.topk_theory.specs.Transcript.{depth_of}
use Rattle.topk_theory.specs.Bounds.{known_grade}
use Rattle.topk_theory.specs.Asked.{Run}
use Rattle.access_log.specs.Log.{AgreesWith}
use Rattle.machine_base.specs.Machine.{MachineState, asked_of}

-- these accesses meet a need: they read the list down to the row, or ask for the grade
abbrev pub Meets : List Access → Need → Type 0
Meets A (RowAt list depth) = depth ≤ depth_of list A
Meets A (Grade list object) = (grade : ℕ) × Contains A (Random list object grade)
Meets A Done = Unit {0}

-- a need is certain: on every table that agrees with the transcript the run meets it
pub record IsCertain (run : Run) (t : MachineState) (need : Need) : Type 0 where
  pub met : (D : List (List Row)) → AgreesWith D t.log → Meets (run (asked_of t) D) need

-- a need is of this list, and a row that lists of n objects have; or there is none
abbrev pub IsOf : ℕ → ℕ → Need → Type 0
IsOf n list (RowAt other depth) = (other ≡ list) × (1 ≤ depth) × (depth ≤ n)
IsOf n list (Grade other object) = other ≡ list
IsOf n list Done = Unit {0}

-- what a machine foresees of a list: a need of it that is certain, or none
pub record Foresees (run : Run) (t : MachineState) (list : ℕ) (need : Need) : Type 0 where
  pub certain : IsCertain run t need
  pub of : IsOf t.log.count list need

-- those of the objects whose grade in this list no access gave
abbrev pub unknown_among : List Access → List ℕ → ℕ → List ℕ
unknown_among A objects list = filter (λ object. is_none (known_grade A object list)) objects

-- the grade of an object in this list, if there is one
abbrev pub grade_of_some : ℕ → Option ℕ → Need
grade_of_some list None = Done
grade_of_some list (Some object) = Grade list object

-- the grade in this list of the first of the objects whose grade there no access gave; none where each is known
abbrev pub first_unknown : List Access → List ℕ → ℕ → Need
first_unknown A objects list = grade_of_some list (slice_get (unknown_among A objects list) 0)

-- what is left of a list where a run that asks for these objects needs this: with a row that of the list at the same depth, with a grade
-- the first that the objects miss in the list, and at the end nothing
abbrev pub left_beside : Need → List Access → List ℕ → ℕ → Need
left_beside (RowAt next depth) A objects list = RowAt list depth
left_beside (Grade next object) A objects list = first_unknown A objects list
left_beside Done A objects list = Done

-- and so for a machine
abbrev pub left_of : MachineState → List ℕ → ℕ → Need
left_of t objects list = left_beside t.need t.log.accesses objects list
