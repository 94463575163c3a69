-- A hole among the nodes. In the list that invariants see, the node that is to fill it stands there already, and so does the place of its key.
use Rattle.std.proofs.Common.{◌≡◌, ◌≢◌, ◌+◌, ◌*◌, ℕ, ◌<◌, ◌≤◌, List, Option, Some, None, false, length, set, get_or, refl, sym, ap, ◌∙◌, subst, arith}
use Rattle.std.specs.declared.cmp.Ordering.{Ordering}
use Rattle.std.specs.Ordering.{is_gt}
use Rattle.std.proofs.lemmas.List.{length-set, set-set, set_comm, set-get_or}
use Rattle.std.proofs.lemmas.Option.{same_Some, slice_get_past, slice_get_read}
use Rattle.containers.specs.declared.tree.Ranked.{Ranked}
use Rattle.containers.specs.Tree.{node_at, node_cmp, place_of_key, IsUpTo, CoversUnder, IsGreatestUnder, IsPlaced, IsExchanged, IsMoved}
use Rattle.containers.proofs.Getting.{get_set_same, get_set_other}
use Rattle.containers.proofs.Placing.{key_within, exchanged_by, moved, moved_not}

-- the nodes with the one for the hole, and the places with that of its key
abbrev pub filled : {T : Type 0} → List (Ranked T) → ℕ → Ranked T → List (Ranked T)
filled nodes hole node = set nodes hole node

abbrev pub told : {T : Type 0} → List (Option ℕ) → ℕ → Ranked T → List (Option ℕ)
told places hole node = set places node.key (Some hole)

-- ---- a node that is taken from its place leaves a hole there
pub filled_again : {T : Type 0} (nodes : List (Ranked T)) (hole : ℕ) (node : Ranked T) → node ≡ get_or nodes hole node → filled nodes hole node ≡ nodes
filled_again nodes hole node is = ap (set nodes hole) is ∙ set-get_or nodes hole node

pub hole_begins : {T : Type 0} (nodes : List (Ranked T)) (places : List (Option ℕ)) (hole : ℕ) (node : Ranked T) → IsPlaced nodes places → hole < length nodes
    → node ≡ get_or nodes hole node → IsMoved nodes (filled nodes hole node) places (told places hole node)
hole_begins nodes places hole node placed within is =
    let there = slice_get_read nodes (length nodes) hole node refl within is in
    let same : told places hole node ≡ places =
    ap (λ (at : Option ℕ). set places node.key at) (sym (placed.of_node hole node there)) ∙ set-get_or places node.key None in
    subst (λ (ps : List (Option ℕ)). IsMoved nodes (filled nodes hole node) places ps) (sym same)
    (subst (λ (ns : List (Ranked _)). IsMoved nodes ns places places) (sym (filled_again nodes hole node is)) (moved_not nodes places placed))

-- the key of the node for the hole has a place
pub own_within : {T : Type 0} (nodes : List (Ranked T)) (places : List (Option ℕ)) (hole : ℕ) (node : Ranked T) → IsPlaced (filled nodes hole node) (told places hole node)
    → hole < length (filled nodes hole node) → node.key < length places
own_within nodes places hole node placed within =
    let size = length-set nodes hole node in
    let here = key_within (told places hole node) node.key hole (placed.of_node hole node (get_set_same nodes hole node (omega arith))) in
    let same = length-set places node.key (Some hole) in
    omega arith

-- ---- a node of another place comes to the hole, which is then where that one stood
pub swapped_back : {T : Type 0} (one other : ℕ) (nodes after : List (Ranked T)) → IsExchanged one other nodes after → IsExchanged other one nodes after
swapped_back one other nodes after swapped = record {
  size = swapped.size;
  at_one = swapped.at_other;
  at_other = swapped.at_one;
  rest = λ place far apart. swapped.rest place apart far;
}

module _ {T : Type 0} (nodes : List (Ranked T)) (places : List (Option ℕ)) (hole from : ℕ) (node other : Ranked T) where
  -- a hole that is not where the other node stands
  pub record IsHole : Type 0 where
    pub placed : IsPlaced (filled nodes hole node) (told places hole node)
    pub here : hole < length nodes
    pub there : from < length nodes
    pub apart : from ≢ hole
    pub is : node_at nodes from ≡ Some other

  at_hole : IsHole → node_at (filled nodes hole node) hole ≡ Some node
  at_hole h = get_set_same nodes hole node h.here

  at_from : IsHole → node_at (filled nodes hole node) from ≡ Some other
  at_from h = get_set_other nodes hole from node h.apart ∙ h.is

  keys_apart : IsHole → node.key ≢ other.key
  keys_apart h = λ e. h.apart (same_Some from hole
      (sym (h.placed.of_node from other (at_from h)) ∙ ap (place_of_key (told places hole node)) (sym e) ∙ h.placed.of_node hole node (at_hole h)))

  -- the key of the other node has a place
  pub other_within : IsHole → other.key < length places
  other_within h =
      let within = key_within (told places hole node) other.key from (h.placed.of_node from other (at_from h)) in
      let size = length-set places node.key (Some hole) in
      omega arith

  -- after it came there
  pub record IsCome (after : List (Ranked T)) (kept : List (Option ℕ)) : Type 0 where
    pub exchanged : IsExchanged hole from (filled nodes hole node) (filled after from node)
    pub moved : IsMoved (filled nodes hole node) (filled after from node) (told places hole node) (told kept from node)

  nodes_are : set (set (filled nodes hole node) hole other) from node ≡ filled (set nodes hole other) from node
  nodes_are = ap (λ (ns : List (Ranked T)). set ns from node) (set-set nodes hole node other)

  places_are : IsHole → set (set (told places hole node) other.key (Some hole)) node.key (Some from) ≡ told (set places other.key (Some hole)) from node
  places_are h =
      ap (λ (ps : List (Option ℕ)). set ps node.key (Some from)) (set_comm places node.key other.key (Some hole) (Some hole) (keys_apart h))
      ∙ set-set (set places other.key (Some hole)) node.key (Some hole) (Some from)

  swapped : IsHole → IsExchanged hole from (filled nodes hole node) (filled (set nodes hole other) from node)
  swapped h =
      let size = length-set nodes hole node in
      let here = h.here in
      let there = h.there in
      subst (IsExchanged hole from (filled nodes hole node)) nodes_are
      (exchanged_by (filled nodes hole node) hole from node other (omega arith) (omega arith) (at_hole h) (at_from h))

  come : IsHole → IsCome (set nodes hole other) (set places other.key (Some hole))
  come h = record {
    exchanged = swapped h;
    moved =
        subst (IsMoved (filled nodes hole node) (filled (set nodes hole other) from node) (told places hole node)) (places_are h)
        (moved (filled nodes hole node) (filled (set nodes hole other) from node) (told places hole node) hole from node other h.placed (at_hole h) (at_from h) (swapped h));
  }

  pub comes : (after : List (Ranked T)) (kept : List (Option ℕ)) → IsHole → after ≡ set nodes hole other → kept ≡ set places other.key (Some hole)
      → IsCome after kept
  comes after kept h is are =
      subst (λ (ns : List (Ranked T)). IsCome ns kept) (sym is) (subst (λ (ps : List (Option ℕ)). IsCome (set nodes hole other) ps) (sym are) (come h))

-- ---- what a test with the node for the hole says
none_before : {T : Type 0} (cmp : T → T → Ordering) (a : Option (Ranked T)) → is_gt (node_cmp cmp None a) ≡ false
none_before cmp None = refl
none_before cmp (Some a) = refl

module _ {T : Type 0} (cmp : T → T → Ordering) (nodes : List (Ranked T)) (hole : ℕ) (node : Ranked T) where
  -- another node is no greater than it, or it is no greater than another one
  pub other_upto : (place : ℕ) → hole < length nodes → place ≢ hole → is_gt (node_cmp cmp (node_at nodes place) (Some node)) ≡ false
      → IsUpTo cmp (filled nodes hole node) place hole
  other_upto place here apart order =
      ap (λ n. is_gt (node_cmp cmp n (node_at (filled nodes hole node) hole))) (get_set_other nodes hole place node apart)
      ∙ ap (λ n. is_gt (node_cmp cmp (node_at nodes place) n)) (get_set_same nodes hole node here) ∙ order

  pub upto_other : (place : ℕ) → hole < length nodes → place ≢ hole → is_gt (node_cmp cmp (Some node) (node_at nodes place)) ≡ false
      → IsUpTo cmp (filled nodes hole node) hole place
  upto_other place here apart order =
      ap (λ n. is_gt (node_cmp cmp n (node_at (filled nodes hole node) place))) (get_set_same nodes hole node here)
      ∙ ap (λ n. is_gt (node_cmp cmp (Some node) n)) (get_set_other nodes hole place node apart) ∙ order

  others_upto : (place under : ℕ) → place ≢ hole → under ≢ hole → IsUpTo cmp nodes under place → IsUpTo cmp (filled nodes hole node) under place
  others_upto place under apart far order =
      ap (λ n. is_gt (node_cmp cmp n (node_at (filled nodes hole node) place))) (get_set_other nodes hole under node far)
      ∙ ap (λ n. is_gt (node_cmp cmp (node_at nodes under) n)) (get_set_other nodes hole place node apart) ∙ order

  -- the greatest node under the hole is that of the list without it
  pub greatest_filled : (under : ℕ) → IsGreatestUnder cmp nodes hole under → IsGreatestUnder cmp (filled nodes hole node) hole under
  greatest_filled under greatest =
      let size = length-set nodes hole node in
      let within = greatest.within in
      let positive = greatest.positive in
      let is = greatest.is in
      record {
        within = omega arith;
        positive = positive;
        is = is;
        covers = λ c below beneath. others_upto under c (omega arith) (omega arith) (greatest.covers c below beneath);
      }

  -- and where none is under the hole, none is greater than it
  pub none_filled : length nodes ≤ 2 * hole + 1 → CoversUnder cmp (filled nodes hole node) hole hole
  none_filled few c below beneath =
      let size = length-set nodes hole node in
      ap (λ n. is_gt (node_cmp cmp n (node_at (filled nodes hole node) hole))) (slice_get_past (filled nodes hole node) c (omega arith))
      ∙ none_before cmp (node_at (filled nodes hole node) hole)
