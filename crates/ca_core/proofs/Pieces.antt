-- Items and their objects.
use Rattle.std.proofs.Common.{◌≡◌, ℕ, List, [], ◌∷◌, ◌++◌, refl, ap}
use Rattle.std.specs.List.{flat_map}
use Rattle.ranked_list.specs.declared.item.Item.{Item}
use Rattle.topk_theory.specs.Threshold.{item_objects}

pub no_items : (items : List Item) → item_objects items ≡ [] → items ≡ []
no_items [] e = refl
no_items (item ∷ items) e = absurd (cc)

pub flat_map_objects : {Y : Type 0} (f : ℕ → List Y) (items : List Item) → flat_map (λ (item : Item). f item.object) items ≡ flat_map f (item_objects items)
flat_map_objects f [] = refl
flat_map_objects f (item ∷ items) = ap (λ ys. f item.object ++ ys) (flat_map_objects f items)
