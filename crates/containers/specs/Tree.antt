-- The tree under a heap: a list of keys with ranks, and beside it the place of each key's node.
use Rattle.std.specs.Prelude.{◌≡◌, ◌≢◌, ◌-◌, ◌/◌, ◌<◌, ◌≤◌, ℕ, false, Option, Some, None, List, length, map, count_by, is_some, slice_get, slice_index_or}
use Rattle.std.specs.declared.cmp.Ordering.{Ordering}
use Rattle.std.specs.Option.{option_map, option_cmp}
use Rattle.std.specs.Ordering.{is_gt, on}
use Rattle.containers.specs.declared.tree.Ranked.{Ranked}
use Rattle.topk_base.specs.declared.TheConstants.{MAX_OBJECTS}

-- the node at a place, None outside
abbrev pub node_at : {T : Type 0} → List (Ranked T) → ℕ → Option (Ranked T)
node_at nodes place = slice_get nodes place

-- the place above one, under which two stand
abbrev pub above : ℕ → ℕ
above place = (place - 1) / 2

-- nodes by their ranks, none before all
abbrev pub node_cmp : {T : Type 0} → (T → T → Ordering) → Option (Ranked T) → Option (Ranked T) → Ordering
node_cmp cmp = option_cmp (on (λ node. node.rank) cmp)

-- the node at the first place has no greater rank than the one at the second
abbrev pub IsUpTo : {T : Type 0} → (T → T → Ordering) → List (Ranked T) → ℕ → ℕ → Type 0
IsUpTo cmp nodes first second = is_gt (node_cmp cmp (node_at nodes first) (node_at nodes second)) ≡ false

-- no node has a greater rank than the one above it
abbrev pub IsHeap : {T : Type 0} → (T → T → Ordering) → List (Ranked T) → Type 0
IsHeap cmp nodes = (place : ℕ) → 1 ≤ place → IsUpTo cmp nodes place (above place)

-- what is under a place has no greater rank than what is above it
abbrev pub FitsAround : {T : Type 0} → (T → T → Ordering) → List (Ranked T) → ℕ → Type 0
FitsAround cmp nodes place = (under : ℕ) → 1 ≤ under → above under ≡ place → 1 ≤ place → IsUpTo cmp nodes under (above place)

-- a heap but for the node at this place, which may have any rank
pub record IsLoose {T : Type 0} (cmp : T → T → Ordering) (loose : ℕ) (nodes : List (Ranked T)) : Type 0 where
  pub within : loose < length nodes
  pub others : (place : ℕ) → 1 ≤ place → place ≢ loose → above place ≢ loose → IsUpTo cmp nodes place (above place)
  pub around : FitsAround cmp nodes loose

-- a heap, but the node at this place may be greater than the one above it
pub record IsRising {T : Type 0} (cmp : T → T → Ordering) (rising : ℕ) (nodes : List (Ranked T)) : Type 0 where
  pub within : rising < length nodes
  pub others : (place : ℕ) → 1 ≤ place → place ≢ rising → IsUpTo cmp nodes place (above place)
  pub around : FitsAround cmp nodes rising

-- a heap, but the node at this place may be less than those under it
pub record IsSinking {T : Type 0} (cmp : T → T → Ordering) (sinking : ℕ) (nodes : List (Ranked T)) : Type 0 where
  pub within : sinking < length nodes
  pub others : (place : ℕ) → 1 ≤ place → above place ≢ sinking → IsUpTo cmp nodes place (above place)
  pub around : FitsAround cmp nodes sinking

-- a place has one above, and the node there is no greater
pub record IsUnderNoGreater {T : Type 0} (cmp : T → T → Ordering) (nodes : List (Ranked T)) (place up : ℕ) : Type 0 where
  pub positive : 1 ≤ place
  pub is : up ≡ above place
  pub order : IsUpTo cmp nodes up place

-- no node under a place is greater than the one at another place
abbrev pub CoversUnder : {T : Type 0} → (T → T → Ordering) → List (Ranked T) → ℕ → ℕ → Type 0
CoversUnder cmp nodes place greatest = (under : ℕ) → 1 ≤ under → above under ≡ place → IsUpTo cmp nodes under greatest

-- the greatest of the nodes under a place
pub record IsGreatestUnder {T : Type 0} (cmp : T → T → Ordering) (nodes : List (Ranked T)) (place under : ℕ) : Type 0 where
  pub within : under < length nodes
  pub positive : 1 ≤ under
  pub is : above under ≡ place
  pub covers : CoversUnder cmp nodes place under

-- the greatest of the nodes under a place, where the one there is no greater
pub record IsGreaterUnder {T : Type 0} (cmp : T → T → Ordering) (nodes : List (Ranked T)) (place under : ℕ) : Type 0 where
  pub greatest : IsGreatestUnder cmp nodes place under
  pub order : IsUpTo cmp nodes place under

-- two nodes have changed their places
pub record IsExchanged {T : Type 0} (one other : ℕ) (nodes exchanged : List (Ranked T)) : Type 0 where
  pub size : length exchanged ≡ length nodes
  pub at_one : node_at exchanged one ≡ node_at nodes other
  pub at_other : node_at exchanged other ≡ node_at nodes one
  pub rest : (place : ℕ) → place ≢ one → place ≢ other → node_at exchanged place ≡ node_at nodes place

-- the place that is kept for a key
abbrev pub place_of_key : List (Option ℕ) → ℕ → Option ℕ
place_of_key places key = slice_index_or places key None

-- a node has this key
abbrev pub HasKey : {T : Type 0} → ℕ → Option (Ranked T) → Type 0
HasKey key node = (ranked : _) × (node ≡ Some ranked) × (ranked.key ≡ key)

-- the place of each node is kept for its key, and none other is kept
pub record IsPlaced {T : Type 0} (nodes : List (Ranked T)) (places : List (Option ℕ)) : Type 0 where
  pub few : length nodes ≤ MAX_OBJECTS
  pub small : length places ≤ MAX_OBJECTS
  pub of_node : (place : ℕ) (node : Ranked T) → node_at nodes place ≡ Some node → place_of_key places node.key ≡ Some place
  pub of_key : (key place : ℕ) → place_of_key places key ≡ Some place → HasKey key (node_at nodes place)

-- the rank at a place, if one is kept
abbrev pub rank_of : {T : Type 0} → List (Ranked T) → Option ℕ → Option T
rank_of nodes None = None
rank_of nodes (Some place) = option_map (λ node. node.rank) (node_at nodes place)

-- the ranks of the keys
abbrev pub ranks_of : {T : Type 0} → List (Ranked T) → List (Option ℕ) → List (Option T)
ranks_of nodes places = map (rank_of nodes) places

-- nodes went to other places, and each key has the rank that it had
pub record IsMoved {T : Type 0} (old new : List (Ranked T)) (known kept : List (Option ℕ)) : Type 0 where
  pub placed : IsPlaced new kept
  pub ranks : ranks_of new kept ≡ ranks_of old known
  pub nodes : length new ≡ length old
  pub places : length kept ≡ length known

-- nodes in their places, as many as these ranks, which they give
pub record IsWith {T : Type 0} (nodes : List (Ranked T)) (known : List (Option ℕ)) (given : List (Option T)) : Type 0 where
  pub placed : IsPlaced nodes known
  pub ranks : ranks_of nodes known ≡ given
  pub count : length nodes ≡ count_by is_some given

-- what a heap keeps
pub record Keeps {T : Type 0} (cmp : T → T → Ordering) (nodes : List (Ranked T)) (places : List (Option ℕ)) : Type 0 where
  pub placed : IsPlaced nodes places
  pub heap : IsHeap cmp nodes
  pub count : length nodes ≡ count_by is_some (ranks_of nodes places)

-- what a heap keeps inside, with memory for as many nodes and places as it may get
pub record IsFilled {T : Type 0} (cmp : T → T → Ordering) (most : ℕ) (tree : List (Ranked T)) (known : List (Option ℕ)) (node_room : ℕ)
    (place_room : ℕ) : Type 0 where
  pub keeps : Keeps cmp tree known
  pub few : most ≤ MAX_OBJECTS
  pub within : length known ≤ most
  pub nodes : most ≤ node_room
  pub places : most ≤ place_room
