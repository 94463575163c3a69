-- Where a machine is in its run, what it has on its board, and when it stops.
use Rattle.std.specs.Prelude.{ℕ, Bool, List, [], ◌∷◌, length, count_by, nat_le, ◌==◌, ◌||◌}
use Rattle.ranked_list.specs.declared.item.Item.{Item}
use Rattle.ranked_list.specs.declared.need.Need.{Need}
use Rattle.ranked_list.specs.declared.need.Need.TheVariants as needs
use Rattle.ranked_list.specs.Items.{put_item}
use Rattle.topk_theory.specs.Order.{lows}
use Rattle.topk_theory.specs.declared.access.Access.{Access}
use Rattle.topk_theory.specs.Transcript.{seen_objects}
use Rattle.topk_theory.specs.Bounds.{low, threshold}
use Rattle.restricted_core.specs.declared.stage.Stage.{Stage}
use Rattle.restricted_core.specs.declared.stage.Stage.TheVariants as stages

-- what is next
abbrev pub need_at : Stage → Need
need_at (stages.Row list depth whole) = needs.Row list depth
need_at (stages.Asking ask depth whole) = needs.Grade ask.list ask.object
need_at stages.Done = needs.Done

-- an object with its low as both bounds
abbrev pub valued : (List ℕ → ℕ) → ℕ → List Access → ℕ → Item
valued V m A object = record { object = object; low = low V m A object; high = low V m A object }

-- the items of a board on which these objects are put, one after another
abbrev pub items_with : (List ℕ → ℕ) → ℕ → List Access → List ℕ → List Item → List Item
items_with V m A [] items = items
items_with V m A (object ∷ objects) items = items_with V m A objects (put_item (valued V m A object) items)

-- at least k items have a low of at least the threshold
abbrev pub are_enough : (List ℕ → ℕ) → ℕ → ℕ → List Access → List Item → Bool
are_enough V k m A items = nat_le k (count_by (nat_le (threshold V m A)) (lows items))

-- at the end of a depth: all n objects are seen, or there are enough
abbrev pub stops_by : (List ℕ → ℕ) → ℕ → ℕ → ℕ → List Access → List Item → Bool
stops_by V k m n A items = length (seen_objects A) == n || are_enough V k m A items
