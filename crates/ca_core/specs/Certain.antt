-- What is certain at a stage, whatever the table.
use Rattle.std.specs.Prelude.{ℕ, List, [], ◌∷◌, drop}
use Rattle.ranked_list.specs.declared.need.Need.{Need}
use Rattle.ranked_list.specs.declared.need.Need.TheVariants as needs
use Rattle.topk_theory.specs.declared.access.Access.{Access}
use Rattle.machine_base.specs.Certain.{first_unknown}
use Rattle.ca_core.specs.declared.stage.Stage.{Stage}
use Rattle.ca_core.specs.declared.stage.Stage.TheVariants as stages

-- of a list: the row at the depth that is read, the grade of the choice, or that of the first of the first k from a place on that misses it
abbrev pub left_at : List Access → List ℕ → Stage → ℕ → Need
left_at A objects (stages.Row next depth) list = needs.Row list depth
left_at A objects (stages.Choice next object depth) list = first_unknown A (object ∷ []) list
left_at A objects (stages.Finish ask) list = first_unknown A (drop ask.place objects) list
left_at A objects stages.Done list = needs.Done
