-- Where a machine is in its run, and what follows an access that is told.
use Rattle.std.specs.Prelude.{ℕ, ◌+◌, Option, Some, None, is_none, List, nat_lt, if◌then◌else◌}
use Rattle.ranked_list.specs.declared.item.Item.{Item}
use Rattle.ranked_list.specs.declared.need.Need.{Need}
use Rattle.ranked_list.specs.declared.need.Need.TheVariants as needs
use Rattle.topk_theory.specs.declared.access.Access.{Access}
use Rattle.topk_theory.specs.Transcript.{seen_objects}
use Rattle.topk_theory.specs.Bounds.{low}
use Rattle.machine_base.specs.declared.asking.Ask.{Ask}
use Rattle.machine_base.specs.Asking.{next_unknown, ask_from}
use Rattle.fa_core.specs.declared.stage.Stage.{Stage}
use Rattle.fa_core.specs.declared.stage.Stage.TheVariants as stages

-- what is next
abbrev pub need_at : Stage → Need
need_at (stages.Row list depth common) = needs.Row list depth
need_at (stages.Asking ask) = needs.Grade ask.list ask.object
need_at stages.Done = needs.Done

-- what is asked next, or the end where nothing is
abbrev pub asking : Option Ask → Stage
asking None = stages.Done
asking (Some ask) = stages.Asking ask

-- how many objects have all their grades, after a row with this object: one more where it has them now
abbrev pub common_after : ℕ → List Access → ℕ → ℕ → ℕ
common_after m A object common = if is_none (next_unknown m A object) then common + 1 else common

-- after a whole row: the next depth, until as many objects as are asked for have all their grades; then the unknown ones of the others
abbrev pub row_ended : ℕ → ℕ → List Access → ℕ → ℕ → Stage
row_ended k m A depth common = if nat_lt common k then stages.Row 0 (depth + 1) common else asking (ask_from m A (seen_objects A) 0)

-- after the row of a list
abbrev pub row_followed : ℕ → ℕ → List Access → ℕ → ℕ → ℕ → Stage
row_followed k m A list depth common = if nat_lt (list + 1) m then stages.Row (list + 1) depth common else row_ended k m A depth common

-- an object with its low as both bounds
abbrev pub valued : (List ℕ → ℕ) → ℕ → List Access → ℕ → Item
valued V m A object = record { object = object; low = low V m A object; high = low V m A object }
