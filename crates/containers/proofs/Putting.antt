-- What a heap keeps and shows as a key's rank is put and taken away.
use Rattle.std.proofs.Common.{◌≡◌, ℕ, ◌+◌, ◌-◌, ◌<◌, ◌≤◌, ◌++◌, List, Option, Some, None, length, set, replicate, sym, ap, ◌∙◌, subst, arith, length-append}
use Rattle.std.specs.declared.cmp.Ordering.{Ordering}
use Rattle.std.specs.Cmp.{IsTotalOrder}
use Rattle.std.specs.Option.{option_map}
use Rattle.std.specs.Prelude.{IfSome}
use Rattle.std.proofs.lemmas.List.{length-replicate, length-set, set-get_or}
use Rattle.std.proofs.lemmas.Option.{slice_get_within}
use Rattle.containers.specs.declared.tree.Ranked.{Ranked}
use Rattle.containers.specs.Ranks.{rank_at, ranks_within, IsGreatest}
use Rattle.containers.specs.Tree.{node_at, place_of_key, rank_of, ranks_of, Keeps, IsFilled}
use Rattle.containers.proofs.Within.{length-within, rank_within, set_within, within_more, greatest_within}
use Rattle.containers.proofs.Placing.{rank_at-ranks_of, key_within, length-ranks_of, keeps_more, ranks_of-more, greatest_first}

module _ {T : Type 0} (cmp : T → T → Ordering) (room : ℕ) (nodes : List (Ranked T)) (places : List (Option ℕ)) (shown : List (Option T)) where
  few_ranks : length places ≤ room → length (ranks_of nodes places) ≤ room
  few_ranks few = let size = length-ranks_of nodes places in omega arith

  -- a key of what is shown is below the room
  below_room : (key : ℕ) → length places ≤ room → ranks_within room (ranks_of nodes places) ≡ shown → key < length shown → key < room
  below_room key few is within =
      let size = length-within room (ranks_of nodes places) (few_ranks few) in
      let same = ap length is in
      omega arith

  -- the places are long enough for a key
  pub record IsReached (key : ℕ) (reached : List (Option ℕ)) : Type 0 where
    pub keeps : Keeps cmp nodes reached
    pub here : key < length reached
    pub within : length reached ≤ room
    pub same : ranks_within room (ranks_of nodes reached) ≡ shown

  pub reached : (key node_room place_room : ℕ) (long : List (Option ℕ)) → IsFilled cmp room nodes places node_room place_room
      → ranks_within room (ranks_of nodes places) ≡ shown → key < length shown → long ≡ places ++ replicate (key + 1 - length places) None → IsReached key long
  reached key node_room place_room long filled is within long_is = subst (λ (ps : List (Option ℕ)). IsReached key ps) (sym long_is) (
      let few = filled.within in
      let small = filled.few in
      let below = below_room key few is within in
      let size = length-append places (replicate (key + 1 - length places) None) in
      let more = length-replicate {A = Option ℕ} (key + 1 - length places) None in
      let ranks = length-ranks_of nodes places in
      record {
        keeps = keeps_more cmp nodes places (key + 1 - length places) filled.keeps (omega arith);
        here = omega arith;
        within = omega arith;
        same =
            ap (ranks_within room) (ranks_of-more nodes places (key + 1 - length places))
            ∙ within_more room (key + 1 - length places) (ranks_of nodes places) (omega arith) ∙ is;
      })

  -- they are for a key that has a place
  pub reached_here : (key place node_room place_room : ℕ) → IsFilled cmp room nodes places node_room place_room → ranks_within room (ranks_of nodes places) ≡ shown
      → place_of_key places key ≡ Some place → IsReached key places
  reached_here key place node_room place_room filled is there = record {
    keeps = filled.keeps;
    here = key_within places key place there;
    within = filled.within;
    same = is;
  }

-- what a heap keeps, and shows to contracts
pub record Shows {T : Type 0} (cmp : T → T → Ordering) (room : ℕ) (nodes : List (Ranked T)) (places : List (Option ℕ)) (node_room place_room : ℕ) (shown : List (Option T)) : Type 0 where
  pub filled : IsFilled cmp room nodes places node_room place_room
  pub is : ranks_within room (ranks_of nodes places) ≡ shown

-- a key's rank was written
pub shows_written : {T : Type 0} (cmp : T → T → Ordering) (room key node_room place_room : ℕ) (nodes after : List (Ranked T)) (places long after_places : List (Option ℕ))
    (shown : List (Option T)) (rank : Option T) → IsReached cmp room nodes places shown key long → Keeps cmp after after_places
    → ranks_of after after_places ≡ set (ranks_of nodes long) key rank → room ≤ 200000 → room ≤ node_room → room ≤ place_room
    → Shows cmp room after after_places node_room place_room (set shown key rank)
shows_written {T = T} cmp room key node_room place_room nodes after places long after_places shown rank reached keeps ranks few node_fits place_fits =
    let size = length-ranks_of nodes long in
    let here = reached.here in
    let within = reached.within in
    let sizes : length after_places ≡ length long =
    sym (length-ranks_of after after_places) ∙ ap length ranks ∙ length-set (ranks_of nodes long) key rank ∙ size in
    record {
      filled = record { keeps = keeps; few = few; within = omega arith; nodes = node_fits; places = place_fits };
      is = ap (ranks_within room) ranks ∙ set_within room (ranks_of nodes long) key rank (omega arith) ∙ ap (λ (rs : List (Option T)). set rs key rank) reached.same;
    }

-- no rank is taken from a key that has none
pub shown_unset : {T : Type 0} (room key : ℕ) (nodes : List (Ranked T)) (places : List (Option ℕ)) (shown : List (Option T))
    → ranks_within room (ranks_of nodes places) ≡ shown → place_of_key places key ≡ None → shown ≡ set shown key None
shown_unset {T = T} room key nodes places shown is none =
    let had : rank_at shown key ≡ None =
    ap (λ (rs : List (Option T)). rank_at rs key) (sym is) ∙ rank_within room (ranks_of nodes places) key ∙ rank_at-ranks_of nodes places key ∙ ap (rank_of nodes) none in
    sym (ap (set shown key) (sym had) ∙ set-get_or shown key None)

-- the rank of a key that has a node
pub shown_rank : {T : Type 0} (cmp : T → T → Ordering) (room key place : ℕ) (nodes : List (Ranked T)) (places : List (Option ℕ)) (shown : List (Option T))
    (node : Ranked T)
    → ranks_within room (ranks_of nodes places) ≡ shown → place_of_key places key ≡ Some place → node_at nodes place ≡ Some node → Some node.rank ≡ rank_at shown key
shown_rank {T = T} cmp room key place nodes places shown node is there at =
    sym (ap (λ (rs : List (Option T)). rank_at rs key) (sym is) ∙ rank_within room (ranks_of nodes places) key ∙ rank_at-ranks_of nodes places key
    ∙ ap (rank_of nodes) there ∙ ap (option_map (λ (n : Ranked T). n.rank)) at)

-- the place that is kept for a key has a node
pub place_here : {T : Type 0} (cmp : T → T → Ordering) (key place : ℕ) (nodes : List (Ranked T)) (places : List (Option ℕ)) → Keeps cmp nodes places
    → place_of_key places key ≡ Some place → place < length nodes
place_here cmp key place nodes places keeps there = let had = keeps.placed.of_key key place there in slice_get_within nodes place had.0 had.1

-- the first node is the greatest of what is shown
pub shown_greatest : {T : Type 0} (cmp : T → T → Ordering) (total : IsTotalOrder cmp) (room : ℕ) (nodes : List (Ranked T)) (places : List (Option ℕ))
    (shown : List (Option T))
    (first : Option (Ranked T)) → Keeps cmp nodes places → ranks_within room (ranks_of nodes places) ≡ shown → first ≡ node_at nodes 0
    → IfSome first (λ top. IsGreatest cmp shown top.key top.rank)
shown_greatest cmp total room nodes places shown None keeps is at = tt
shown_greatest cmp total room nodes places shown (Some top) keeps is at =
    greatest_within cmp room (ranks_of nodes places) shown (Some top) is (greatest_first cmp total nodes places top keeps (sym at))
