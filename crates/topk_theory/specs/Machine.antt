-- A machine that makes a stated run: what it needs next, and when that can be had.
use Rattle.std.specs.Prelude.{◌≡◌, ◌<◌, ◌≤◌, ◌+◌, List, length, Option, Some, None, Contains, slice_get}
use Rattle.ranked_list.specs.declared.row.Row.{Row}
use Rattle.ranked_list.specs.declared.need.Need.{Need}
use Rattle.ranked_list.specs.declared.need.Need.TheVariants.{Row as RowAt, Grade, Done}
use Rattle.topk_theory.specs.declared.access.Access.{Access}
use Rattle.topk_theory.specs.declared.access.Access.TheVariants.{Sorted, Random}
use Rattle.topk_theory.specs.Aggregate.{objects_of}
use Rattle.topk_theory.specs.Transcript.{Begins, list_at, depth_of}

-- the need of the access that comes after those made
abbrev pub need_of : List Access → Option Access → Need
need_of made None = Done
need_of made (Some (Sorted list object grade)) = RowAt list (depth_of list made + 1)
need_of made (Some (Random list object grade)) = Grade list object

-- the accesses made are how the run begins, and the need is its next access, or done exactly at its end
pub record IsAt (run made : List Access) (needed : Need) : Type 0 where
  pub begins : Begins made run
  pub next : needed ≡ need_of made (slice_get run (length made))

-- the table has what is needed
abbrev pub CanServe : List (List Row) → Need → Type 0
CanServe D (RowAt list depth) = (list < length D) × (1 ≤ depth) × (depth ≤ length (list_at D list))
CanServe D (Grade list object) = (list < length D) × Contains (objects_of D) object
CanServe D Done = Unit {0}
