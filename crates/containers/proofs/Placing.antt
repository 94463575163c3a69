-- The places of keys, and the ranks that they give, as nodes go elsewhere, come and leave.
use Rattle.std.proofs.Common.{◌≡◌, ◌≢◌, ◌⊎◌, inl, inr, ℕ, zero, suc, ◌+◌, ◌-◌, ◌<◌, ◌≤◌, List, [], ◌∷◌, ◌++◌, Option, Some, None, length, map, set, replicate, get_or, is_some, true, refl, sym, ap, ◌∙◌, subst, arith, length-append}
use Rattle.std.specs.declared.cmp.Ordering.{Ordering}
use Rattle.std.specs.List.{count_by}
use Rattle.std.specs.Cmp.{IsTotalOrder}
use Rattle.std.specs.declared.cmp.Ordering.TheVariants.{Greater}
use Rattle.std.specs.Option.{option_map, option_to_list}
use Rattle.std.specs.Prelude.{MatchOption}
use Rattle.std.proofs.lemmas.Bool.{cases_lt, cases_eq}
use Rattle.std.proofs.lemmas.List.{length-map, length-set, ext_get_or, get_or_past, get_or-set_same, get_or-set_other, get_or_append_left, get_or-append_right, length-replicate}
use Rattle.std.proofs.lemmas.List.Sums.{sum_by-set, sum_by-append, count_by-le-length}
use Rattle.std.proofs.lemmas.Option.{none-some, same_Some, slice_get_within}
use Rattle.containers.specs.declared.tree.Ranked.{Ranked}
use Rattle.containers.specs.Ranks.{rank_at, one_if, HasNone, IsGreatest}
use Rattle.containers.specs.Tree.{node_at, place_of_key, rank_of, ranks_of, HasKey, IsHeap, IsLoose, IsPlaced, IsExchanged, IsMoved, IsWith, Keeps}
use Rattle.containers.proofs.Getting.{get_set_same, get_set_other, get_last, get_before}
use Rattle.containers.proofs.HeapLaws.{none_greater, loose_last, loose_front, heap_front}
use Rattle.containers.proofs.Within.{none_ranked, count_of_none}

get_or-map : {A B : Type 0} (f : Option A → Option B) (xs : List (Option A)) (i : ℕ) → f None ≡ None → get_or (map f xs) i None ≡ f (get_or xs i None)
get_or-map f [] i none = sym none
get_or-map f (x ∷ xs) zero none = refl
get_or-map f (x ∷ xs) (suc i) none = get_or-map f xs i none

-- the rank of a key is that of the node at its place
pub rank_at-ranks_of : {T : Type 0} (nodes : List (Ranked T)) (places : List (Option ℕ)) (key : ℕ)
    → rank_at (ranks_of nodes places) key ≡ rank_of nodes (place_of_key places key)
rank_at-ranks_of nodes places key = get_or-map (rank_of nodes) places key refl

pub length-ranks_of : {T : Type 0} (nodes : List (Ranked T)) (places : List (Option ℕ)) → length (ranks_of nodes places) ≡ length places
length-ranks_of nodes places = length-map places (rank_of nodes)

-- a key with a place is one of the places
pub key_within : (places : List (Option ℕ)) (key place : ℕ) → place_of_key places key ≡ Some place → key < length places
key_within places key place there =
    elim (cases_lt key (length places)) [
      | inl here ↦ here
      | inr past ↦ absurd (none-some place (sym (get_or_past places key None past) ∙ there))
    ]

-- two lists give the same ranks where each key has the same rank in both
same_ranks : {T : Type 0} (nodes : List (Ranked T)) (places : List (Option ℕ)) (ranks : List (Option T)) → length places ≡ length ranks
    → ((key : ℕ) → rank_of nodes (place_of_key places key) ≡ rank_at ranks key) → ranks_of nodes places ≡ ranks
same_ranks nodes places ranks sizes same =
    ext_get_or None (ranks_of nodes places) ranks (length-ranks_of nodes places ∙ sizes) (λ key _. rank_at-ranks_of nodes places key ∙ same key)

-- ---- two nodes are exchanged
module _ {T : Type 0} (nodes exchanged : List (Ranked T)) (places : List (Option ℕ)) (one other : ℕ) (first second : Ranked T) where
  -- where the places of the two keys are then kept
  abbrev kept : List (Option ℕ)
  kept = set (set places second.key (Some one)) first.key (Some other)

  kept_first : IsPlaced nodes places → node_at nodes one ≡ Some first → place_of_key kept first.key ≡ Some other
  kept_first placed at_one =
      let inner = length-set places second.key (Some one) in
      let here = key_within places first.key one (placed.of_node one first at_one) in
      get_or-set_same (set places second.key (Some one)) first.key (Some other) None (omega arith)

  kept_second : IsPlaced nodes places → node_at nodes one ≡ Some first → node_at nodes other ≡ Some second → place_of_key kept second.key ≡ Some one
  kept_second placed at_one at_other =
      let here = key_within places second.key other (placed.of_node other second at_other) in
      elim (cases_eq second.key first.key) as (λ _. place_of_key kept second.key ≡ Some one) [
        | inl e ↦
            let same : other ≡ one =
            same_Some other one (sym (placed.of_node other second at_other) ∙ ap (place_of_key places) e ∙ placed.of_node one first at_one) in
            ap (place_of_key kept) e ∙ kept_first placed at_one ∙ ap (λ p. Some p) same
        | inr n ↦
            get_or-set_other (set places second.key (Some one)) first.key second.key (Some other) None n
            ∙ get_or-set_same places second.key (Some one) None here
      ]

  kept_rest : (key : ℕ) → key ≢ first.key → key ≢ second.key → place_of_key kept key ≡ place_of_key places key
  kept_rest key apart far =
      get_or-set_other (set places second.key (Some one)) first.key key (Some other) None apart ∙ get_or-set_other places second.key key (Some one) None far

  of_node_after : IsPlaced nodes places → node_at nodes one ≡ Some first → node_at nodes other ≡ Some second → IsExchanged one other nodes exchanged
      → (place : ℕ) (node : Ranked T) → node_at exchanged place ≡ Some node → place_of_key kept node.key ≡ Some place
  of_node_after placed at_one at_other swapped place node there = at (cases_eq place one) (cases_eq place other)
    where
      at : (place ≡ one) ⊎ (place ≢ one) → (place ≡ other) ⊎ (place ≢ other) → place_of_key kept node.key ≡ Some place
      at (inl e) _ =
          let is : second ≡ node = same_Some second node (sym (swapped.at_one ∙ at_other) ∙ ap (node_at exchanged) (sym e) ∙ there) in
          subst (λ (n : Ranked T). place_of_key kept n.key ≡ Some place) is (kept_second placed at_one at_other ∙ ap (λ p. Some p) (sym e))
      at (inr _) (inl e) =
          let is : first ≡ node = same_Some first node (sym (swapped.at_other ∙ at_one) ∙ ap (node_at exchanged) (sym e) ∙ there) in
          subst (λ (n : Ranked T). place_of_key kept n.key ≡ Some place) is (kept_first placed at_one ∙ ap (λ p. Some p) (sym e))
      at (inr n) (inr m) =
          let was : place_of_key places node.key ≡ Some place = placed.of_node place node (sym (swapped.rest place n m) ∙ there) in
          let not_first : node.key ≢ first.key =
          λ e. n (same_Some place one (sym was ∙ ap (place_of_key places) e ∙ placed.of_node one first at_one)) in
          let not_second : node.key ≢ second.key =
          λ e. m (same_Some place other (sym was ∙ ap (place_of_key places) e ∙ placed.of_node other second at_other)) in
          kept_rest node.key not_first not_second ∙ was

  -- each key is one of the two, or has the place that it had, which is neither's
  abbrev Stays : ℕ → Type 0
  Stays key = (place_of_key kept key ≡ place_of_key places key) × ((place : ℕ) → place_of_key places key ≡ Some place → (place ≢ one) × (place ≢ other))

  stays : IsPlaced nodes places → node_at nodes one ≡ Some first → node_at nodes other ≡ Some second → (key : ℕ) → key ≢ first.key → key ≢ second.key → Stays key
  stays placed at_one at_other key apart far = (
    kept_rest key apart far,
    λ place there.
        let node = placed.of_key key place there in (
          λ e. apart (sym node.2 ∙ ap (λ (n : Ranked T). n.key) (same_Some node.0 first (sym node.1 ∙ ap (node_at nodes) e ∙ at_one))),
          λ e. far (sym node.2 ∙ ap (λ (n : Ranked T). n.key) (same_Some node.0 second (sym node.1 ∙ ap (node_at nodes) e ∙ at_other))),
        ),
  )

  of_key_after : IsPlaced nodes places → node_at nodes one ≡ Some first → node_at nodes other ≡ Some second → IsExchanged one other nodes exchanged
      → (key place : ℕ) → place_of_key kept key ≡ Some place → HasKey key (node_at exchanged place)
  of_key_after placed at_one at_other swapped key place there = at (cases_eq key first.key) (cases_eq key second.key)
    where
      at : (key ≡ first.key) ⊎ (key ≢ first.key) → (key ≡ second.key) ⊎ (key ≢ second.key) → HasKey key (node_at exchanged place)
      at (inl e) _ =
          let is : other ≡ place = same_Some other place (sym (kept_first placed at_one) ∙ ap (place_of_key kept) (sym e) ∙ there) in
          (first, ap (node_at exchanged) (sym is) ∙ swapped.at_other ∙ at_one, sym e)
      at (inr _) (inl e) =
          let is : one ≡ place = same_Some one place (sym (kept_second placed at_one at_other) ∙ ap (place_of_key kept) (sym e) ∙ there) in
          (second, ap (node_at exchanged) (sym is) ∙ swapped.at_one ∙ at_other, sym e)
      at (inr n) (inr m) =
          let same = stays placed at_one at_other key n m in
          let was = sym same.0 ∙ there in
          let apart = same.1 place was in
          let node = placed.of_key key place was in
          (node.0, swapped.rest place apart.0 apart.1 ∙ node.1, node.2)

  rank_after : IsPlaced nodes places → node_at nodes one ≡ Some first → node_at nodes other ≡ Some second → IsExchanged one other nodes exchanged
      → (key : ℕ) → rank_of exchanged (place_of_key kept key) ≡ rank_of nodes (place_of_key places key)
  rank_after placed at_one at_other swapped key = at (cases_eq key first.key) (cases_eq key second.key)
    where
      same_place : (place : Option ℕ) → ((at : ℕ) → place ≡ Some at → (at ≢ one) × (at ≢ other)) → rank_of exchanged place ≡ rank_of nodes place
      same_place None apart = refl
      same_place (Some place) apart =
          let far = apart place refl in
          ap (option_map (λ (node : Ranked T). node.rank)) (swapped.rest place far.0 far.1)

      at : (key ≡ first.key) ⊎ (key ≢ first.key) → (key ≡ second.key) ⊎ (key ≢ second.key) → rank_of exchanged (place_of_key kept key) ≡ rank_of nodes (place_of_key places key)
      at (inl e) _ =
          ap (rank_of exchanged) (ap (place_of_key kept) e ∙ kept_first placed at_one)
          ∙ ap (option_map (λ (node : Ranked T). node.rank)) swapped.at_other
          ∙ ap (rank_of nodes) (sym (ap (place_of_key places) e ∙ placed.of_node one first at_one))
      at (inr _) (inl e) =
          ap (rank_of exchanged) (ap (place_of_key kept) e ∙ kept_second placed at_one at_other)
          ∙ ap (option_map (λ (node : Ranked T). node.rank)) swapped.at_one
          ∙ ap (rank_of nodes) (sym (ap (place_of_key places) e ∙ placed.of_node other second at_other))
      at (inr n) (inr m) =
          let same = stays placed at_one at_other key n m in
          ap (rank_of exchanged) same.0 ∙ same_place (place_of_key places key) same.1

  -- two nodes are exchanged, and what is kept of their keys' places
  pub moved : IsPlaced nodes places → node_at nodes one ≡ Some first → node_at nodes other ≡ Some second → IsExchanged one other nodes exchanged
      → IsMoved nodes exchanged places kept
  moved placed at_one at_other swapped =
      let sizes : length kept ≡ length places = length-set (set places second.key (Some one)) first.key (Some other) ∙ length-set places second.key (Some one) in
      record {
        placed = record {
          few = subst (λ n. n ≤ 200000) (sym swapped.size) placed.few;
          small = subst (λ n. n ≤ 200000) (sym sizes) placed.small;
          of_node = of_node_after placed at_one at_other swapped;
          of_key = of_key_after placed at_one at_other swapped;
        };
        ranks =
            same_ranks exchanged kept (ranks_of nodes places) (sizes ∙ sym (length-ranks_of nodes places))
            (λ key. rank_after placed at_one at_other swapped key ∙ sym (rank_at-ranks_of nodes places key));
        nodes = swapped.size;
        places = sizes;
      }

-- nodes that were written at each other's places
pub exchanged_by : {T : Type 0} (nodes : List (Ranked T)) (one other : ℕ) (first second : Ranked T) → one < length nodes → other < length nodes
    → node_at nodes one ≡ Some first → node_at nodes other ≡ Some second → IsExchanged one other nodes (set (set nodes one second) other first)
exchanged_by nodes one other first second here there at_one at_other =
    let inner = length-set nodes one second in
    let size = length-set (set nodes one second) other first in
    record {
      size = size ∙ inner;
      at_one = elim (cases_eq one other) as (λ _. node_at (set (set nodes one second) other first) one ≡ node_at nodes other) [
        | inl e ↦
            ap (node_at (set (set nodes one second) other first)) e ∙ get_set_same (set nodes one second) other first (omega arith)
            ∙ sym at_one ∙ ap (node_at nodes) e
        | inr n ↦ get_set_other (set nodes one second) other one first n ∙ get_set_same nodes one second here ∙ sym at_other
      ];
      at_other = get_set_same (set nodes one second) other first (omega arith) ∙ sym at_one;
      rest = λ place apart far. get_set_other (set nodes one second) other place first far ∙ get_set_other nodes one place second apart;
    }

-- nodes that moved twice
pub moved_on : {T : Type 0} (nodes between after : List (Ranked T)) (places between_places last : List (Option ℕ)) → IsMoved nodes between places between_places
    → IsMoved between after between_places last → IsMoved nodes after places last
moved_on nodes between after places between_places last one two = record {
  placed = two.placed;
  ranks = two.ranks ∙ one.ranks;
  nodes = two.nodes ∙ one.nodes;
  places = two.places ∙ one.places;
}

pub moved_not : {T : Type 0} (nodes : List (Ranked T)) (places : List (Option ℕ)) → IsPlaced nodes places → IsMoved nodes nodes places places
moved_not nodes places placed = record { placed = placed; ranks = refl; nodes = refl; places = refl }

-- ---- how many ranks there are
count_set : {T : Type 0} (ranks : List (Option T)) (key : ℕ) (rank : Option T) → key < length ranks
    → count_by is_some (set ranks key rank) + one_if (is_some (rank_at ranks key)) ≡ count_by is_some ranks + one_if (is_some rank)
count_set {T = T} ranks key rank within = sum_by-set (λ (r : Option T). one_if (is_some r)) ranks key rank None within

-- ---- a key gets another rank
module _ {T : Type 0} (cmp : T → T → Ordering) (nodes : List (Ranked T)) (places : List (Option ℕ)) (place : ℕ) (node : Ranked T) where
  -- the node that was there has the key too
  placed_written : IsPlaced nodes places → place_of_key places node.key ≡ Some place → IsPlaced (set nodes place node) places
  placed_written placed there =
      let had = placed.of_key node.key place there in
      let within = slice_get_within nodes place had.0 had.1 in
      record {
        few = subst (λ n. n ≤ 200000) (sym (length-set nodes place node)) placed.few;
        small = placed.small;
        of_node = λ at one found. elim (cases_eq at place) as (λ _. place_of_key places one.key ≡ Some at) [
          | inl e ↦
              let is : node ≡ one = same_Some node one (sym (get_set_same nodes place node within) ∙ ap (node_at (set nodes place node)) (sym e) ∙ found) in
              subst (λ (n : Ranked T). place_of_key places n.key ≡ Some at) is (there ∙ ap (λ p. Some p) (sym e))
          | inr n ↦ placed.of_node at one (sym (get_set_other nodes place at node n) ∙ found)
        ];
        of_key = λ key at found. elim (cases_eq at place) as (λ _. HasKey key (node_at (set nodes place node) at)) [
          | inl e ↦
              let old = placed.of_key key at found in
              let same : node.key ≡ key =
              sym had.2 ∙ ap (λ (n : Ranked T). n.key) (same_Some had.0 old.0 (sym had.1 ∙ ap (node_at nodes) (sym e) ∙ old.1)) ∙ old.2 in
              (node, ap (node_at (set nodes place node)) e ∙ get_set_same nodes place node within, same)
          | inr n ↦
              let old = placed.of_key key at found in
              (old.0, get_set_other nodes place at node n ∙ old.1, old.2)
        ];
      }

  ranks_written : IsPlaced nodes places → place_of_key places node.key ≡ Some place
      → ranks_of (set nodes place node) places ≡ set (ranks_of nodes places) node.key (Some node.rank)
  ranks_written placed there =
      let had = placed.of_key node.key place there in
      let within = slice_get_within nodes place had.0 had.1 in
      let size = length-ranks_of nodes places in
      let here = key_within places node.key place there in
      let inside : node.key < length (ranks_of nodes places) = omega arith in
      same_ranks (set nodes place node) places (set (ranks_of nodes places) node.key (Some node.rank))
      (sym (length-set (ranks_of nodes places) node.key (Some node.rank) ∙ size))
      (λ key. elim (cases_eq key node.key) as (λ _. rank_of (set nodes place node) (place_of_key places key) ≡ rank_at (set (ranks_of nodes places) node.key (Some node.rank)) key) [
        | inl e ↦
            ap (rank_of (set nodes place node)) (ap (place_of_key places) e ∙ there)
            ∙ ap (option_map (λ (n : Ranked T). n.rank)) (get_set_same nodes place node within)
            ∙ sym (ap (rank_at (set (ranks_of nodes places) node.key (Some node.rank))) e ∙ get_or-set_same (ranks_of nodes places) node.key (Some node.rank) None inside)
        | inr n ↦
            elsewhere key n (place_of_key places key) refl
            ∙ sym (get_or-set_other (ranks_of nodes places) node.key key (Some node.rank) None n ∙ rank_at-ranks_of nodes places key)
      ])
    where
      elsewhere : (key : ℕ) → key ≢ node.key → (at : Option ℕ) → place_of_key places key ≡ at → rank_of (set nodes place node) at ≡ rank_of nodes at
      elsewhere key apart None found = refl
      elsewhere key apart (Some at) found =
          let old = placed.of_key key at found in
          let had = placed.of_key node.key place there in
          let far : at ≢ place =
          λ e. apart (sym old.2 ∙ ap (λ (n : Ranked T). n.key) (same_Some old.0 had.0 (sym old.1 ∙ ap (node_at nodes) e ∙ had.1)) ∙ had.2) in
          ap (option_map (λ (n : Ranked T). n.rank)) (get_set_other nodes place at node far)

  pub place_within : IsPlaced nodes places → place_of_key places node.key ≡ Some place → place < length nodes
  place_within placed there = let had = placed.of_key node.key place there in slice_get_within nodes place had.0 had.1

  -- as many ranks as nodes, still
  count_written : Keeps cmp nodes places → place_of_key places node.key ≡ Some place
      → length nodes ≡ count_by is_some (set (ranks_of nodes places) node.key (Some node.rank))
  count_written keeps there =
      let had = keeps.placed.of_key node.key place there in
      let size = length-ranks_of nodes places in
      let here = key_within places node.key place there in
      let changed = count_set (ranks_of nodes places) node.key (Some node.rank) (omega arith) in
      let some : is_some (rank_at (ranks_of nodes places) node.key) ≡ true =
      ap is_some (rank_at-ranks_of nodes places node.key ∙ ap (rank_of nodes) there ∙ ap (option_map (λ (n : Ranked T). n.rank)) had.1) in
      let one = ap one_if some in
      let count = keeps.count in
      omega arith

  pub written : Keeps cmp nodes places → place_of_key places node.key ≡ Some place
      → IsWith (set nodes place node) places (set (ranks_of nodes places) node.key (Some node.rank))
  written keeps there = record {
    placed = placed_written keeps.placed there;
    ranks = ranks_written keeps.placed there;
    count = length-set nodes place node ∙ count_written keeps there;
  }

-- ---- a key without a rank gets one
module _ {T : Type 0} (cmp : T → T → Ordering) (nodes : List (Ranked T)) (places : List (Option ℕ)) (node : Ranked T) where
  abbrev more : List (Ranked T)
  more = nodes ++ node ∷ []

  abbrev known : List (Option ℕ)
  known = set places node.key (Some (length nodes))

  placed_added : IsPlaced nodes places → node.key < length places → place_of_key places node.key ≡ None → length nodes < 200000 → IsPlaced more known
  placed_added placed within absent few = record {
    few = omega (arith, length-append nodes (node ∷ []));
    small = subst (λ n. n ≤ 200000) (sym (length-set places node.key (Some (length nodes)))) placed.small;
    of_node = λ at one found. elim (cases_eq at (length nodes)) as (λ _. place_of_key known one.key ≡ Some at) [
      | inl e ↦
          let is : node ≡ one = same_Some node one (sym (get_last nodes node) ∙ ap (node_at more) (sym e) ∙ found) in
          subst (λ (n : Ranked T). place_of_key known n.key ≡ Some at) is (get_or-set_same places node.key (Some (length nodes)) None within ∙ ap (λ p. Some p) (sym e))
      | inr n ↦
          let was = placed.of_node at one (sym (get_before nodes node at n) ∙ found) in
          let apart : one.key ≢ node.key = λ e. none-some at (sym absent ∙ ap (place_of_key places) (sym e) ∙ was) in
          get_or-set_other places node.key one.key (Some (length nodes)) None apart ∙ was
    ];
    of_key = λ key at found. elim (cases_eq key node.key) as (λ _. HasKey key (node_at more at)) [
      | inl e ↦
          let is : length nodes ≡ at =
          same_Some (length nodes) at (sym (get_or-set_same places node.key (Some (length nodes)) None within) ∙ ap (place_of_key known) (sym e) ∙ found) in
          (node, ap (node_at more) (sym is) ∙ get_last nodes node, sym e)
      | inr n ↦
          let old = placed.of_key key at (sym (get_or-set_other places node.key key (Some (length nodes)) None n) ∙ found) in
          let inside = slice_get_within nodes at old.0 old.1 in
          let before : at ≢ length nodes = λ e. absurd (omega arith) in
          (old.0, get_before nodes node at before ∙ old.1, old.2)
    ];
  }

  ranks_added : IsPlaced nodes places → node.key < length places → ranks_of more known ≡ set (ranks_of nodes places) node.key (Some node.rank)
  ranks_added placed within =
      let size = length-ranks_of nodes places in
      let inside : node.key < length (ranks_of nodes places) = omega arith in
      same_ranks more known (set (ranks_of nodes places) node.key (Some node.rank))
      (length-set places node.key (Some (length nodes)) ∙ sym (length-set (ranks_of nodes places) node.key (Some node.rank) ∙ size))
      (λ key. elim (cases_eq key node.key) as (λ _. rank_of more (place_of_key known key) ≡ rank_at (set (ranks_of nodes places) node.key (Some node.rank)) key) [
        | inl e ↦
            ap (rank_of more) (ap (place_of_key known) e ∙ get_or-set_same places node.key (Some (length nodes)) None within)
            ∙ ap (option_map (λ (n : Ranked T). n.rank)) (get_last nodes node)
            ∙ sym (ap (rank_at (set (ranks_of nodes places) node.key (Some node.rank))) e ∙ get_or-set_same (ranks_of nodes places) node.key (Some node.rank) None inside)
        | inr n ↦
            ap (rank_of more) (get_or-set_other places node.key key (Some (length nodes)) None n)
            ∙ elsewhere key (place_of_key places key) refl
            ∙ sym (get_or-set_other (ranks_of nodes places) node.key key (Some node.rank) None n ∙ rank_at-ranks_of nodes places key)
      ])
    where
      elsewhere : (key : ℕ) (at : Option ℕ) → place_of_key places key ≡ at → rank_of more at ≡ rank_of nodes at
      elsewhere key None found = refl
      elsewhere key (Some at) found =
          let old = placed.of_key key at found in
          let inside = slice_get_within nodes at old.0 old.1 in
          let before : at ≢ length nodes = λ e. absurd (omega arith) in
          ap (option_map (λ (n : Ranked T). n.rank)) (get_before nodes node at before)

  count_added : Keeps cmp nodes places → node.key < length places → place_of_key places node.key ≡ None
      → length nodes + 1 ≡ count_by is_some (set (ranks_of nodes places) node.key (Some node.rank))
  count_added keeps within absent =
      let size = length-ranks_of nodes places in
      let changed = count_set (ranks_of nodes places) node.key (Some node.rank) (omega arith) in
      let none = ap one_if (ap is_some (rank_at-ranks_of nodes places node.key ∙ ap (rank_of nodes) absent)) in
      let count = keeps.count in
      omega arith

  -- there are fewer nodes than places
  pub room_left : Keeps cmp nodes places → node.key < length places → place_of_key places node.key ≡ None → length nodes < length places
  room_left keeps within absent =
      let size = length-ranks_of nodes places in
      let bigger = length-set (ranks_of nodes places) node.key (Some node.rank) in
      let most = count_by-le-length is_some (set (ranks_of nodes places) node.key (Some node.rank)) in
      let count = count_added keeps within absent in
      omega arith

  added : Keeps cmp nodes places → node.key < length places → place_of_key places node.key ≡ None
      → IsWith more known (set (ranks_of nodes places) node.key (Some node.rank))
  added keeps within absent =
      let few = keeps.placed.small in
      let left = room_left keeps within absent in
      record {
        placed = placed_added keeps.placed within absent (omega arith);
        ranks = ranks_added keeps.placed within;
        count = length-append nodes (node ∷ []) ∙ count_added keeps within absent;
      }

  pub added_at : (pushed : List (Ranked T)) (last : ℕ) → Keeps cmp nodes places → node.key < length places → place_of_key places node.key ≡ None → pushed ≡ more
      → last ≡ length nodes → IsWith pushed (set places node.key (Some last)) (set (ranks_of nodes places) node.key (Some node.rank))
  added_at pushed last keeps within absent is at =
      subst (λ (n : ℕ). IsWith pushed (set places node.key (Some n)) (set (ranks_of nodes places) node.key (Some node.rank))) (sym at)
      (subst (λ (ns : List (Ranked T)). IsWith ns known (set (ranks_of nodes places) node.key (Some node.rank))) (sym is) (added keeps within absent))

  pub loose_at : IsTotalOrder cmp → (pushed : List (Ranked T)) (last : ℕ) → IsHeap cmp nodes → pushed ≡ more → last ≡ length nodes → IsLoose cmp last pushed
  loose_at total pushed last heap is at =
      subst (λ (n : ℕ). IsLoose cmp n pushed) (sym at) (subst (λ (ns : List (Ranked T)). IsLoose cmp (length nodes) ns) (sym is) (loose_last cmp total nodes node heap))

-- ---- the last node leaves
module _ {T : Type 0} (cmp : T → T → Ordering) (front : List (Ranked T)) (node : Ranked T) (places : List (Option ℕ)) where
  abbrev all : List (Ranked T)
  all = front ++ node ∷ []

  abbrev left : List (Option ℕ)
  left = set places node.key None

  last_place : IsPlaced all places → place_of_key places node.key ≡ Some (length front)
  last_place placed = placed.of_node (length front) node (get_last front node)

  placed_left : IsPlaced all places → IsPlaced front left
  placed_left placed =
      let here = key_within places node.key (length front) (last_place placed) in
      let few = placed.few in
      record {
        few = omega (arith, length-append front (node ∷ []));
        small = subst (λ n. n ≤ 200000) (sym (length-set places node.key None)) placed.small;
        of_node = λ at one found.
            let inside = slice_get_within front at one found in
            let before : at ≢ length front = λ e. absurd (omega arith) in
            let was = placed.of_node at one (get_before front node at before ∙ found) in
            let apart : one.key ≢ node.key = λ e. before (same_Some at (length front) (sym was ∙ ap (place_of_key places) e ∙ last_place placed)) in
            get_or-set_other places node.key one.key None None apart ∙ was;
        of_key = λ key at found. elim (cases_eq key node.key) as (λ _. HasKey key (node_at front at)) [
          | inl e ↦ absurd (none-some at (sym (get_or-set_same places node.key None None here) ∙ ap (place_of_key left) (sym e) ∙ found))
          | inr n ↦
              let old = placed.of_key key at (sym (get_or-set_other places node.key key None None n) ∙ found) in
              let before : at ≢ length front =
              λ e. n (sym old.2 ∙ ap (λ (x : Ranked T). x.key) (same_Some old.0 node (sym old.1 ∙ ap (node_at all) e ∙ get_last front node))) in
              (old.0, sym (get_before front node at before) ∙ old.1, old.2)
        ];
      }

  ranks_left : IsPlaced all places → ranks_of front left ≡ set (ranks_of all places) node.key None
  ranks_left placed =
      let size = length-ranks_of all places in
      let here = key_within places node.key (length front) (last_place placed) in
      let inside : node.key < length (ranks_of all places) = omega arith in
      same_ranks front left (set (ranks_of all places) node.key None)
      (length-set places node.key None ∙ sym (length-set (ranks_of all places) node.key None ∙ size))
      (λ key. elim (cases_eq key node.key) as (λ _. rank_of front (place_of_key left key) ≡ rank_at (set (ranks_of all places) node.key None) key) [
        | inl e ↦
            ap (rank_of front) (ap (place_of_key left) e ∙ get_or-set_same places node.key None None here)
            ∙ sym (ap (rank_at (set (ranks_of all places) node.key None)) e ∙ get_or-set_same (ranks_of all places) node.key None None inside)
        | inr n ↦
            ap (rank_of front) (get_or-set_other places node.key key None None n)
            ∙ elsewhere key n (place_of_key places key) refl
            ∙ sym (get_or-set_other (ranks_of all places) node.key key None None n ∙ rank_at-ranks_of all places key)
      ])
    where
      elsewhere : (key : ℕ) → key ≢ node.key → (at : Option ℕ) → place_of_key places key ≡ at → rank_of front at ≡ rank_of all at
      elsewhere key apart None found = refl
      elsewhere key apart (Some at) found =
          let old = placed.of_key key at found in
          let before : at ≢ length front =
          λ e. apart (sym old.2 ∙ ap (λ (x : Ranked T). x.key) (same_Some old.0 node (sym old.1 ∙ ap (node_at all) e ∙ get_last front node))) in
          ap (option_map (λ (x : Ranked T). x.rank)) (sym (get_before front node at before))

  left_by : IsPlaced all places → length all ≡ count_by is_some (ranks_of all places) → IsWith front left (set (ranks_of all places) node.key None)
  left_by placed count =
      let size = length-ranks_of all places in
      let here = key_within places node.key (length front) (last_place placed) in
      let changed = count_set (ranks_of all places) node.key None (omega arith) in
      let one = ap one_if (ap is_some (rank_at-ranks_of all places node.key ∙ ap (rank_of all) (last_place placed) ∙ ap (option_map (λ (x : Ranked T). x.rank)) (get_last front node))) in
      let all_of = length-append front (node ∷ []) in
      record { placed = placed_left placed; ranks = ranks_left placed; count = omega arith }

-- something is taken from the end of a list that has something
pub something_popped : {X : Type 0} (gone : Option X) (n m : ℕ) → MatchOption gone ((n ≡ 0) × (m ≡ 0)) (λ _. m + 1 ≡ n) → 0 < n → gone ≢ None
something_popped None n m none some = λ _. let z = none.0 in absurd (omega arith)
something_popped (Some x) n m one some = λ e. none-some x (sym e)

-- a node goes to the last place, and leaves
module _ {T : Type 0} (cmp : T → T → Ordering) (nodes exchanged front : List (Ranked T)) (places between : List (Option ℕ)) (place last key : ℕ) where
  -- what was told of it
  pub record IsTaken (gone : Option (Ranked T)) : Type 0 where
    pub keeps : Keeps cmp nodes places
    pub there : place_of_key places key ≡ Some place
    pub swapped : IsExchanged place last nodes exchanged
    pub moved : IsMoved nodes exchanged places between
    pub end : last + 1 ≡ length nodes
    pub rest : exchanged ≡ front ++ option_to_list gone
    pub some : gone ≢ None

  last_is : (node : Ranked T) → IsTaken (Some node) → last ≡ length front
  last_is node taken =
      let size = ap length taken.rest ∙ length-append front (node ∷ []) in
      let same = taken.swapped.size in
      let end = taken.end in
      omega arith

  key_is : (node : Ranked T) → IsTaken (Some node) → node.key ≡ key
  key_is node taken =
      let had = taken.keeps.placed.of_key key place taken.there in
      let is : node ≡ had.0 =
      same_Some node had.0
      (sym (ap (λ (ns : List (Ranked T)). node_at ns last) taken.rest ∙ ap (node_at (front ++ node ∷ [])) (last_is node taken) ∙ get_last front node)
      ∙ taken.swapped.at_other ∙ had.1) in
      ap (λ (n : Ranked T). n.key) is ∙ had.2

  pub taken_with : (gone : Option (Ranked T)) → IsTaken gone → IsWith front (set between key None) (set (ranks_of nodes places) key None)
  taken_with None taken = absurd (taken.some refl)
  taken_with (Some node) taken =
      let placed : IsPlaced (front ++ node ∷ []) between = subst (λ (ns : List (Ranked T)). IsPlaced ns between) taken.rest taken.moved.placed in
      let ranks : ranks_of (front ++ node ∷ []) between ≡ ranks_of nodes places =
      ap (λ (ns : List (Ranked T)). ranks_of ns between) (sym taken.rest) ∙ taken.moved.ranks in
      let count : length (front ++ node ∷ []) ≡ count_by is_some (ranks_of (front ++ node ∷ []) between) =
      ap length (sym taken.rest) ∙ taken.moved.nodes ∙ taken.keeps.count ∙ ap (count_by is_some) (sym ranks) in
      subst (λ (k : ℕ). IsWith front (set between k None) (set (ranks_of nodes places) k None)) (key_is node taken)
      (subst (λ (rs : List (Option T)). IsWith front (set between node.key None) (set rs node.key None)) ranks (left_by cmp front node between placed count))

  swapped_last : (node : Ranked T) → IsTaken (Some node) → IsExchanged place (length front) nodes exchanged
  swapped_last node taken = subst (λ (n : ℕ). IsExchanged place n nodes exchanged) (last_is node taken) taken.swapped

  pub taken_loose : IsTotalOrder cmp → (gone : Option (Ranked T)) → IsTaken gone → place < length front → IsLoose cmp place front
  taken_loose total None taken within = absurd (taken.some refl)
  taken_loose total (Some node) taken within =
      loose_front cmp total place nodes exchanged front node taken.keeps.heap (swapped_last node taken) taken.rest within

  pub taken_heap : IsTotalOrder cmp → (gone : Option (Ranked T)) → IsTaken gone → length front ≤ place → IsHeap cmp front
  taken_heap total None taken past = absurd (taken.some refl)
  taken_heap total (Some node) taken past =
      let had = taken.keeps.placed.of_key key place taken.there in
      let within = slice_get_within nodes place had.0 had.1 in
      let size = taken.swapped.size in
      heap_front cmp total place nodes exchanged front node taken.keeps.heap (swapped_last node taken) taken.rest past (omega arith)

-- what is then left, with the lists as the calls tell of them
pub dropped : {T : Type 0} (cmp : T → T → Ordering) (total : IsTotalOrder cmp) (nodes lent exchanged front : List (Ranked T)) (places between : List (Option ℕ))
    (place last key n m : ℕ) (gone : Option (Ranked T)) → Keeps cmp nodes places → place_of_key places key ≡ Some place → lent ≡ nodes
    → IsExchanged place last lent exchanged → IsMoved lent exchanged places between → n ≡ length nodes → 0 < n → last ≡ n - 1
    → exchanged ≡ front ++ option_to_list gone → MatchOption gone ((n ≡ 0) × (m ≡ 0)) (λ _. m + 1 ≡ n)
    → IsWith front (set between key None) (set (ranks_of nodes places) key None)
    × (place < length front → IsLoose cmp place front) × (length front ≤ place → IsHeap cmp front)
dropped cmp total nodes lent exchanged front places between place last key n m gone keeps there lent_is swapped moved size some last_is rest popped =
    let taken : IsTaken cmp nodes exchanged front places between place last key gone = record {
      keeps = keeps;
      there = there;
      swapped = subst (λ (ns : List (Ranked _)). IsExchanged place last ns exchanged) lent_is swapped;
      moved = subst (λ (ns : List (Ranked _)). IsMoved ns exchanged places between) lent_is moved;
      end = omega arith;
      rest = rest;
      some = something_popped gone n m popped some;
    } in (
      taken_with cmp nodes exchanged front places between place last key gone taken,
      taken_loose cmp nodes exchanged front places between place last key total gone taken,
      taken_heap cmp nodes exchanged front places between place last key total gone taken,
    )

-- ---- what a heap keeps, after its nodes settled
pub settled : {T : Type 0} (cmp : T → T → Ordering) (nodes after : List (Ranked T)) (places known_after : List (Option ℕ)) (ranks : List (Option T))
    → IsWith nodes places ranks → IsHeap cmp after → IsMoved nodes after places known_after → Keeps cmp after known_after × (ranks_of after known_after ≡ ranks)
settled cmp nodes after places known_after ranks with heap moved = (
  record { placed = moved.placed; heap = heap; count = moved.nodes ∙ with.count ∙ ap (count_by is_some) (sym (moved.ranks ∙ with.ranks)) },
  moved.ranks ∙ with.ranks,
)

-- ---- no ranks yet, and more places
pub keeps_none : {T : Type 0} (cmp : T → T → Ordering) → Keeps cmp [] []
keeps_none cmp = record {
  placed = record { few = omega arith; small = omega arith; of_node = λ place node there. absurd (none-some node there); of_key = λ key place there. absurd (none-some place there) };
  heap = λ place below. refl;
  count = refl;
}

place_of_key-more : (places : List (Option ℕ)) (n key : ℕ) → place_of_key (places ++ replicate n None) key ≡ place_of_key places key
place_of_key-more places n key =
    elim (cases_lt key (length places)) as (λ _. place_of_key (places ++ replicate n None) key ≡ place_of_key places key) [
      | inl here ↦ get_or_append_left places (replicate n None) None key here
      | inr past ↦ get_or-append_right places (replicate n None) (length places) key None refl past ∙ none_ranked {T = ℕ} n (key - length places) ∙ sym (get_or_past places key None past)
    ]

pub ranks_of-more : {T : Type 0} (nodes : List (Ranked T)) (places : List (Option ℕ)) (n : ℕ)
    → ranks_of nodes (places ++ replicate n None) ≡ ranks_of nodes places ++ replicate n None
ranks_of-more nodes [] zero = refl
ranks_of-more {T = T} nodes [] (suc n) = ap (λ (rs : List (Option T)). None ∷ rs) (ranks_of-more nodes [] n)
ranks_of-more {T = T} nodes (place ∷ places) n = ap (λ (rs : List (Option T)). rank_of nodes place ∷ rs) (ranks_of-more nodes places n)

pub keeps_more : {T : Type 0} (cmp : T → T → Ordering) (nodes : List (Ranked T)) (places : List (Option ℕ)) (n : ℕ) → Keeps cmp nodes places
    → length places + n ≤ 200000 → Keeps cmp nodes (places ++ replicate n None)
keeps_more {T = T} cmp nodes places n keeps fits = record {
  placed = record {
    few = keeps.placed.few;
    small = let size = length-append places (replicate n None) in let more = length-replicate {A = Option ℕ} n None in omega arith;
    of_node = λ place node there. place_of_key-more places n node.key ∙ keeps.placed.of_node place node there;
    of_key = λ key place there. keeps.placed.of_key key place (sym (place_of_key-more places n key) ∙ there);
  };
  heap = keeps.heap;
  count =
      let both = sum_by-append (λ (r : Option T). one_if (is_some r)) (ranks_of nodes places) (replicate n None) in
      let none = count_of_none T n in
      let count = keeps.count in
      let same = ap (count_by is_some) (ranks_of-more nodes places n) in
      omega arith;
}

-- ---- the greatest rank
pub none_first : {T : Type 0} (nodes : List (Ranked T)) (places : List (Option ℕ)) → IsPlaced nodes places → node_at nodes 0 ≡ None → HasNone (ranks_of nodes places)
none_first {T = T} nodes places placed none key = rank_at-ranks_of nodes places key ∙ at (place_of_key places key) refl
  where
    empty : (ns : List (Ranked T)) → node_at ns 0 ≡ None → (place : ℕ) → node_at ns place ≡ None
    empty [] e place = refl
    empty (n ∷ ns) e place = absurd (none-some n (sym e))

    at : (place : Option ℕ) → place_of_key places key ≡ place → rank_of nodes place ≡ None
    at None found = refl
    at (Some place) found = ap (option_map (λ (n : Ranked T). n.rank)) (empty nodes none place)

pub greatest_first : {T : Type 0} (cmp : T → T → Ordering) (total : IsTotalOrder cmp) (nodes : List (Ranked T)) (places : List (Option ℕ)) (top : Ranked T)
    → Keeps cmp nodes places → node_at nodes 0 ≡ Some top → IsGreatest cmp (ranks_of nodes places) top.key top.rank
greatest_first {T = T} cmp total nodes places top keeps first = record {
  there = rank_at-ranks_of nodes places top.key ∙ ap (rank_of nodes) (keeps.placed.of_node 0 top first) ∙ ap (option_map (λ (n : Ranked T). n.rank)) first;
  none_above = λ other another has. at other another (place_of_key places other) refl (sym (rank_at-ranks_of nodes places other) ∙ has);
}
  where
    at : (other : ℕ) (another : T) (place : Option ℕ) → place_of_key places other ≡ place → rank_of nodes place ≡ Some another → cmp another top.rank ≢ Greater
    at other another None found has = absurd (none-some another has)
    at other another (Some place) found has =
        let node = keeps.placed.of_key other place found in
        let is : node.0.rank ≡ another = same_Some node.0.rank another (sym (ap (option_map (λ (n : Ranked T). n.rank)) node.1) ∙ has) in
        subst (λ (r : T). cmp r top.rank ≢ Greater) is (none_greater cmp total nodes place node.0 top keeps.heap node.1 first)
