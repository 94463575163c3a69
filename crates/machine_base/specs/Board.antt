-- A board that follows the transcript: the seen objects whose grades are all there, each with its aggregate.
use Rattle.std.specs.Prelude.{◌≡◌, ℕ, Bool, List, [], ◌∷◌, ◌++◌, Contains, if◌then◌else◌}
use Rattle.ranked_list.specs.declared.row.Row.{Row}
use Rattle.ranked_list.specs.declared.item.Item.{Item}
use Rattle.topk_theory.specs.Order.{AreDistinct}
use Rattle.topk_theory.specs.declared.access.Access.{Access}
use Rattle.topk_theory.specs.Transcript.{seen_objects}
use Rattle.topk_theory.specs.Threshold.{scored}

-- the objects that wait for grades, after a row with this object
abbrev pub with_new : List ℕ → ℕ → Bool → List ℕ
with_new waiting object is_new = if is_new then waiting ++ object ∷ [] else waiting

-- the board has the seen objects that don't wait, each once, with their aggregates
pub record OnBoard (V : List ℕ → ℕ) (D : List (List Row)) (A : List Access) (waiting : List ℕ) (items : List Item) : Type 0 where
  pub distinct : AreDistinct items
  pub held : (object : ℕ) → Contains (seen_objects A) object → ¬ Contains waiting object → Contains items (scored V D object)
  pub only : (item : Item) → Contains items item → Contains (seen_objects A) item.object × (¬ Contains waiting item.object) × (scored V D item.object ≡ item)
