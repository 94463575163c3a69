-- Items by rising id of their objects.
use Rattle.std.specs.Prelude.{ℕ, List, [], ◌∷◌}
use Rattle.std.specs.Ordering.{nat_cmp, match_ordering}
use Rattle.ranked_list.specs.declared.item.Item.{Item}

-- the items with this one: in place of its object's where the object has one, else added at its id
abbrev pub put_item : Item → List Item → List Item
put_item item [] = item ∷ []
put_item item (held ∷ others) =
    match_ordering (nat_cmp item.object held.object) (item ∷ held ∷ others) (item ∷ others) (held ∷ put_item item others)
