-- The order of items, the first k of them, and the k-th low.
use Rattle.std.specs.Prelude.{◌≡◌, ◌≢◌, ◌⊎◌, ◌<◌, ◌≤◌, ◌-◌, ℕ, Bool, Option, List, [], ◌∷◌, length, take, map, min, All, AllPairs, Contains, count_by, slice_get, nat_lt, nat_le, if◌then◌else◌}
use Rattle.std.specs.Option.{option_map}
use Rattle.std.specs.declared.cmp.Ordering.{Ordering}
use Rattle.std.specs.Ordering.{ordering_then, nat_cmp, is_lt}
use Rattle.ranked_list.specs.declared.item.Item.{Item}

-- `OrderLaws` proves that `IsBefore` is a strict total order on items of different objects, `InOrder` that
-- `in_order` lists the same items in order and that no other list does, `FirstK` that `first_k` alone is the
-- first k, and `KthLow` that `kth_low` is the k-th largest low.

-- a stands before b: its low is greater, at equal lows its high is greater, at equal bounds its id is smaller
abbrev pub IsBefore : Item → Item → Type 0
IsBefore a b =
    (b.low < a.low) ⊎ ((a.low ≡ b.low) × ((b.high < a.high) ⊎ ((a.high ≡ b.high) × (a.object < b.object))))

-- how two items compare: low falling, then high falling, then id rising
abbrev pub item_cmp : Item → Item → Ordering
item_cmp a b =
    ordering_then (ordering_then (nat_cmp b.low a.low) (nat_cmp b.high a.high)) (nat_cmp a.object b.object)

-- whether a stands before b, as `IsBefore` says it
abbrev pub is_before : Item → Item → Bool
is_before a b = is_lt (item_cmp a b)

-- no two items are of one object
abbrev pub AreDistinct : List Item → Type 0
AreDistinct items = AllPairs (λ (a : Item) (b : Item). a.object ≢ b.object) items

-- each item stands before those after it
abbrev pub IsInOrder : List Item → Type 0
IsInOrder items = AllPairs IsBefore items

-- items in order, with one more in its place
abbrev pub with_placed : Item → List Item → List Item
with_placed item [] = item ∷ []
with_placed item (first ∷ rest) = if is_before item first then item ∷ first ∷ rest else first ∷ with_placed item rest

-- the items in order
abbrev pub in_order : List Item → List Item
in_order [] = []
in_order (item ∷ rest) = with_placed item (in_order rest)

-- the first k items in order, all of them where they are fewer
abbrev pub first_k : ℕ → List Item → List Item
first_k k items = take k (in_order items)

-- the low of the k-th item in order, None where they are fewer
abbrev pub kth_low : ℕ → List Item → Option ℕ
kth_low k items = option_map (λ (item : Item). item.low) (slice_get (in_order items) (k - 1))

-- first is the first k of the items: k of them or all, in order, and no item outside stands before one of them
pub record IsFirstK (k : ℕ) (items first : List Item) : Type 0 where
  pub ordered : IsInOrder first
  pub size : length first ≡ min k (length items)
  pub held : All (Contains items) first
  pub none_ahead : (inside outside : Item) → Contains first inside → Contains items outside → (Contains first outside → ⊥) → IsBefore outside inside → ⊥

-- v is the k-th largest of the numbers: fewer than k are greater, and at least k are no less
pub record IsKthLargest (k : ℕ) (numbers : List ℕ) (v : ℕ) : Type 0 where
  pub greater : count_by (λ n. nat_lt v n) numbers < k
  pub no_less : k ≤ count_by (λ n. nat_le v n) numbers

-- the lows of the items
abbrev pub lows : List Item → List ℕ
lows items = map (λ (item : Item). item.low) items
