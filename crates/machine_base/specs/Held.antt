-- What a board holds: for each object the item that was put last.
use Rattle.std.specs.Prelude.{◌==◌, ◌<◌, ℕ, Bool, Option, List, [], ◌∷◌, AllPairs, find}
use Rattle.std.specs.List.{list_any}
use Rattle.ranked_list.specs.declared.item.Item.{Item}
use Rattle.ranked_list.specs.Items.{put_item}

-- how many are wanted, how many objects there is room for, and the items held, one for each object, by rising id
pub record Held : Type 0 where
  pub k : ℕ
  pub room : ℕ
  pub items : List Item

-- the item of an object with this low and this high
abbrev pub item_with : ℕ → ℕ → ℕ → Item
item_with object low high = record { object = object; low = low; high = high }

-- the ids of the items rise, as they do on a board
abbrev pub IsRising : List Item → Type 0
IsRising items = AllPairs (λ (a : Item) (b : Item). a.object < b.object) items

-- the items by rising id
abbrev pub risen : List Item → List Item
risen [] = []
risen (item ∷ items) = put_item item (risen items)

-- the object's item, if it has one
abbrev pub item_at : ℕ → List Item → Option Item
item_at object items = find (λ (item : Item). item.object == object) items

-- whether the object has an item
abbrev pub has_object : ℕ → List Item → Bool
has_object object items = list_any (λ (item : Item). item.object == object) items
