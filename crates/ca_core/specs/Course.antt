-- Where a machine is in its run, and what follows an access that is told.
use Rattle.std.specs.Prelude.{◌≡◌, ◌≤◌, ℕ, ◌+◌, ◌%◌, ◌==◌, Option, Some, None, List, [], drop, nat_lt, if◌then◌else◌}
use Rattle.ranked_list.specs.declared.item.Item.{Item}
use Rattle.ranked_list.specs.declared.need.Need.{Need}
use Rattle.ranked_list.specs.declared.need.Need.TheVariants as needs
use Rattle.topk_theory.specs.declared.access.Access.{Access}
use Rattle.topk_theory.specs.Bounds.{low}
use Rattle.topk_theory.specs.Threshold.{item_objects}
use Rattle.topk_theory.specs.NoRandom.{first_seen}
use Rattle.topk_theory.specs.Combined.{choice}
use Rattle.nra_core.specs.Quiet.{is_quiet_seen}
use Rattle.machine_base.specs.declared.asking.Ask.{Ask}
use Rattle.machine_base.specs.Asking.{next_unknown, ask_from}
use Rattle.machine_base.specs.declared.base.Base.{Base}
use Rattle.ca_core.specs.declared.stage.Stage.{Stage}
use Rattle.ca_core.specs.declared.stage.Stage.TheVariants as stages
use Rattle.topk_base.specs.declared.TheConstants.{MAX_OBJECTS}

-- what is next
abbrev pub need_at : Stage → Need
need_at (stages.Row list depth) = needs.Row list depth
need_at (stages.Choice list object depth) = needs.Grade list object
need_at (stages.Finish ask) = needs.Grade ask.list ask.object
need_at stages.Done = needs.Done

-- the finish with what is asked next of the first k, or the end where nothing is
abbrev pub finish_of : Option Ask → Stage
finish_of None = stages.Done
finish_of (Some ask) = stages.Finish ask

-- what is next, and the first k, once they are read
pub record Course : Type 0 where
  pub stage : Stage
  pub first : List Item

-- after all of a depth: the finish where it is quiet, else the next depth
abbrev pub block_ended : (List ℕ → ℕ) → ℕ → ℕ → ℕ → List Access → ℕ → List Item → Course
block_ended V k m n A depth first =
    if is_quiet_seen V k m n A then record { stage = finish_of (ask_from m A (item_objects (first_seen V k m A)) 0); first = first_seen V k m A }
    else record { stage = stages.Row 0 (depth + 1); first = first }

-- after a grade of the choice: its next unknown grade, if it has one
abbrev pub grade_taken : (List ℕ → ℕ) → ℕ → ℕ → ℕ → List Access → ℕ → List Item → ℕ → Option ℕ → Course
grade_taken V k m n A depth first object None = block_ended V k m n A depth first
grade_taken V k m n A depth first object (Some list) = record { stage = stages.Choice list object depth; first = first }

-- with the choice, if there is one
abbrev pub phase_begun : (List ℕ → ℕ) → ℕ → ℕ → ℕ → List Access → ℕ → List Item → Option ℕ → Course
phase_begun V k m n A depth first None = block_ended V k m n A depth first
phase_begun V k m n A depth first (Some object) = grade_taken V k m n A depth first object (next_unknown m A object)

-- after a whole row: a random phase, where the depth is a multiple of the phase length
abbrev pub row_ended : (List ℕ → ℕ) → ℕ → ℕ → ℕ → ℕ → List Access → ℕ → List Item → Course
row_ended V k phase m n A depth first = if (depth % phase) == 0 then phase_begun V k m n A depth first (choice V k m A) else block_ended V k m n A depth first

-- after the access that was next
abbrev pub moved : (List ℕ → ℕ) → ℕ → ℕ → ℕ → ℕ → List Access → Stage → List Item → Course
moved V k phase m n A (stages.Row list depth) first =
    if nat_lt (list + 1) m then record { stage = stages.Row (list + 1) depth; first = first } else row_ended V k phase m n A depth first
moved V k phase m n A (stages.Choice list object depth) first = grade_taken V k m n A depth first object (next_unknown m A object)
moved V k phase m n A (stages.Finish ask) first = record { stage = finish_of (ask_from m A (drop ask.place (item_objects first)) ask.place); first = first }
moved V k phase m n A stages.Done first = record { stage = stages.Done; first = first }

-- a depth may end: it is a table's, and the first k aren't read yet, but have room
pub record MayMove (base : Base) (depth : ℕ) (first : List Item) (capacity : ℕ) : Type 0 where
  pub deep : depth ≤ MAX_OBJECTS
  pub none : first ≡ []
  pub roomy : base.room ≤ capacity

-- and so it is where a stage is left
abbrev pub MayMoveAt : Base → Stage → List Item → ℕ → Type 0
MayMoveAt base (stages.Row list depth) first capacity = (list + 1 ≤ base.transcript.lists) × MayMove base depth first capacity
MayMoveAt base (stages.Choice list object depth) first capacity = MayMove base depth first capacity
MayMoveAt base (stages.Finish ask) first capacity = Unit {0}
MayMoveAt base stages.Done first capacity = Unit {0}

-- an object with its low as both bounds
abbrev pub valued : (List ℕ → ℕ) → ℕ → List Access → ℕ → Item
valued V m A object = record { object = object; low = low V m A object; high = low V m A object }
