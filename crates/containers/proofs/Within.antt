-- The ranks of the keys below a room, of which those past a list have none.
use Rattle.std.proofs.Common.{◌≡◌, inl, inr, ℕ, zero, suc, ◌+◌, ◌-◌, ◌<◌, ◌≤◌, ◌++◌, List, Option, Some, None, length, set, replicate, is_some, refl, sym, ap, ◌∙◌, subst, arith, length-append}
use Rattle.std.specs.declared.cmp.Ordering.{Ordering}
use Rattle.std.specs.List.{count_by}
use Rattle.std.specs.Prelude.{IfNone, IfSome}
use Rattle.std.proofs.lemmas.Bool.{cases_lt}
use Rattle.std.proofs.lemmas.List.{append_assoc, length-replicate, replicate-append-replicate, get_or_past, get_or_append_left, get_or-append_right, set-append_left, length-set}
use Rattle.std.proofs.lemmas.List.Sums.{sum_by-append, sum_by-cons}
use Rattle.containers.specs.declared.tree.Ranked.{Ranked}
use Rattle.containers.specs.Ranks.{rank_at, ranks_within, HasNone, IsGreatest, one_if}
use Rattle.containers.proofs.Getting.{get_replicate}

-- as many keys as the room
pub length-within : {T : Type 0} (room : ℕ) (ranks : List (Option T)) → length ranks ≤ room → length (ranks_within room ranks) ≡ room
length-within {T = T} room ranks few =
    let size = length-append ranks (replicate (room - length ranks) None) in
    let more = length-replicate {A = Option T} (room - length ranks) None in
    omega arith

-- no rank in a list of none
pub none_ranked : {T : Type 0} (room place : ℕ) → rank_at {T = T} (replicate room None) place ≡ None
none_ranked {T = T} room place = get_replicate {X = Option T} None room place

-- each key has the rank that it has in the list
pub rank_within : {T : Type 0} (room : ℕ) (ranks : List (Option T)) (key : ℕ) → rank_at (ranks_within room ranks) key ≡ rank_at ranks key
rank_within {T = T} room ranks key =
    elim (cases_lt key (length ranks)) as (λ _. rank_at (ranks_within room ranks) key ≡ rank_at ranks key) [
      | inl here ↦ get_or_append_left ranks (replicate (room - length ranks) None) None key here
      | inr past ↦
          get_or-append_right ranks (replicate (room - length ranks) None) (length ranks) key None refl past
          ∙ none_ranked (room - length ranks) (key - length ranks) ∙ sym (get_or_past ranks key None past)
    ]

pub count_of_none : (T : Type 0) (n : ℕ) → count_by {X = Option T} is_some (replicate n None) ≡ 0
count_of_none T zero = refl
count_of_none T (suc n) = let more = count_of_none T n in omega (arith, sum_by-cons {X = Option T})

-- as many ranks as in the list
pub count_within : {T : Type 0} (room : ℕ) (ranks : List (Option T)) → count_by is_some (ranks_within room ranks) ≡ count_by is_some ranks
count_within {T = T} room ranks =
    let both = sum_by-append (λ (r : Option T). one_if (is_some r)) ranks (replicate (room - length ranks) None) in
    let none = count_of_none T (room - length ranks) in
    omega arith

-- a rank that is written in the list
pub set_within : {T : Type 0} (room : ℕ) (ranks : List (Option T)) (key : ℕ) (rank : Option T) → key < length ranks
    → ranks_within room (set ranks key rank) ≡ set (ranks_within room ranks) key rank
set_within {T = T} room ranks key rank here =
    ap (λ n. set ranks key rank ++ replicate (room - n) None) (length-set ranks key rank)
    ∙ sym (set-append_left ranks (replicate (room - length ranks) None) key rank here)

-- a list that goes on with none is within a room what it was
pub within_more : {T : Type 0} (room n : ℕ) (ranks : List (Option T)) → length ranks + n ≤ room
    → ranks_within room (ranks ++ replicate n None) ≡ ranks_within room ranks
within_more {T = T} room n ranks fits =
    let size = length-append ranks (replicate n None) in
    let more = length-replicate {A = Option T} n None in
    let rest : n + (room - length (ranks ++ replicate n None)) ≡ room - length ranks = omega arith in
    append_assoc ranks (replicate n None) (replicate (room - length (ranks ++ replicate n None)) None)
    ∙ ap (λ t. ranks ++ t) (replicate-append-replicate n (room - length (ranks ++ replicate n None)) None ∙ ap (λ i. replicate i None) rest)

-- and a wider room has more of none
pub wider_within : {T : Type 0} (room wide : ℕ) (ranks : List (Option T)) → length ranks ≤ room → room ≤ wide
    → ranks_within wide ranks ≡ ranks_within room ranks ++ replicate (wide - room) None
wider_within {T = T} room wide ranks few fits =
    let rest : room - length ranks + (wide - room) ≡ wide - length ranks = omega arith in
    sym (append_assoc ranks (replicate (room - length ranks) None) (replicate (wide - room) None)
    ∙ ap (λ t. ranks ++ t) (replicate-append-replicate (room - length ranks) (wide - room) None ∙ ap (λ n. replicate n None) rest))

-- what the greatest says of the list it says within a room
pub HasNone-within : {T : Type 0} (room : ℕ) (ranks : List (Option T)) → HasNone ranks → HasNone (ranks_within room ranks)
HasNone-within room ranks none key = rank_within room ranks key ∙ none key

pub IsGreatest-within : {T : Type 0} (cmp : T → T → Ordering) (room : ℕ) (ranks : List (Option T)) (key : ℕ) (rank : T) → IsGreatest cmp ranks key rank
    → IsGreatest cmp (ranks_within room ranks) key rank
IsGreatest-within cmp room ranks key rank top = record {
  there = rank_within room ranks key ∙ top.there;
  none_above = λ other another has. top.none_above other another (sym (rank_within room ranks other) ∙ has);
}

pub none_within : {T : Type 0} (room : ℕ) (ranks shown : List (Option T)) (first : Option (Ranked T)) → ranks_within room ranks ≡ shown
    → IfNone first (HasNone ranks) → IfNone first (HasNone shown)
none_within {T = T} room ranks shown None is none = subst (λ (rs : List (Option T)). HasNone rs) is (HasNone-within room ranks none)
none_within room ranks shown (Some top) is none = tt

pub greatest_within : {T : Type 0} (cmp : T → T → Ordering) (room : ℕ) (ranks shown : List (Option T)) (first : Option (Ranked T))
    → ranks_within room ranks ≡ shown
    → IfSome first (λ top. IsGreatest cmp ranks top.key top.rank) → IfSome first (λ top. IsGreatest cmp shown top.key top.rank)
greatest_within cmp room ranks shown None is top = tt
greatest_within {T = T} cmp room ranks shown (Some top) is greatest =
    subst (λ (rs : List (Option T)). IsGreatest cmp rs top.key top.rank) is (IsGreatest-within cmp room ranks top.key top.rank greatest)
