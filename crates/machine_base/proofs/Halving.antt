-- Ranks that are parted anew after the rank of one place has changed.
use Rattle.std.proofs.Common.{◌≡◌, ◌≢◌, ◌⊎◌, inl, inr, ℕ, suc, ◌+◌, ◌<◌, ◌≤◌, true, false, cond, List, [], ◌∷◌, Option, Some, None, length, set, is_some, refl, sym, ap, ◌∙◌, subst, arith}
use Rattle.std.specs.declared.cmp.Ordering.{Ordering}
use Rattle.std.specs.declared.cmp.Ordering.TheVariants.{Less, Equal, Greater}
use Rattle.std.specs.declared.cmp.Reverse.{Reverse}
use Rattle.std.specs.Cmp.{IsTotalOrder, on_total}
use Rattle.std.specs.List.{count_by}
use Rattle.std.specs.Ordering.{is_gt, is_lt, ordering_reverse}
use Rattle.std.proofs.lemmas.Bool.{cases_eq, cases_lt, false≢true}
use Rattle.std.proofs.lemmas.Cmp.{upto}
use Rattle.std.proofs.lemmas.List.{length-set, get_or-set_same, get_or-set_other, get_or_past}
use Rattle.std.proofs.lemmas.List.Sums.{sum_by-set, sum_by-cons}
use Rattle.std.proofs.lemmas.Option.{none-some, same_Some}
use Rattle.containers.specs.Ranks.{rank_at, HasNone}
use Rattle.topk_theory.proofs.OrderLaws.{items_total}
use Rattle.machine_base.specs.declared.rank.Rank.{Rank}
use Rattle.machine_base.specs.Rank.{item_of, rank_cmp}
use Rattle.machine_base.specs.Halves.{IsHalved, IsHalvedBut}

ranks_total : IsTotalOrder rank_cmp
ranks_total = on_total item_of items_total

-- ---- what compares as no greater
is_gt_from : (r : Ordering) → r ≢ Greater → is_gt r ≡ false
is_gt_from Less not = refl
is_gt_from Equal not = refl
is_gt_from Greater not = absurd (not refl)

from_is_gt : (r : Ordering) → is_gt r ≡ false → r ≢ Greater
from_is_gt r e above = false≢true (sym e ∙ ap is_gt above)

chain : (a b c : Rank) → rank_cmp a b ≢ Greater → rank_cmp b c ≢ Greater → rank_cmp a c ≢ Greater
chain a b c ab bc =
    from_is_gt (rank_cmp a c) (upto ranks_total a b c (is_gt_from (rank_cmp a b) ab) (is_gt_from (rank_cmp b c) bc))

-- a rank that isn't before another isn't less: the other stands no later
not_later : (a b : Rank) → is_lt (rank_cmp a b) ≡ false → rank_cmp b a ≢ Greater
not_later a b denied later = false≢true (sym denied ∙ ap is_lt (ranks_total.antisymm a b ∙ ap ordering_reverse later))

not_both : (a b : Rank) → is_lt (rank_cmp a b) ≡ true → rank_cmp b a ≢ Greater → ⊥
not_both a b holds upto_a = by_order (rank_cmp a b) refl holds
  where
    by_order : (r : Ordering) → rank_cmp a b ≡ r → is_lt r ≡ true → ⊥
    by_order Less e _ = upto_a (ranks_total.antisymm b a ∙ ap ordering_reverse e)
    by_order Equal e t = false≢true t
    by_order Greater e t = false≢true t

before_so : (a b : Rank) → is_lt (rank_cmp a b) ≡ true → rank_cmp a b ≢ Greater
before_so a b holds above = false≢true (sym (ap is_lt above) ∙ holds)

-- ---- ranks by place, after one was written
pub at_same : {T : Type 0} (ranks : List (Option T)) (place : ℕ) (rank : Option T) → place < length ranks → rank_at (set ranks place rank) place ≡ rank
at_same ranks place rank within = get_or-set_same ranks place rank None within

pub at_other : {T : Type 0} (ranks : List (Option T)) (place other : ℕ) (rank : Option T) → other ≢ place
    → rank_at (set ranks place rank) other ≡ rank_at ranks other
at_other ranks place other rank apart = get_or-set_other ranks place other rank None apart

-- a place with a rank is within
pub within_at : {T : Type 0} (ranks : List (Option T)) (place : ℕ) (rank : T) → rank_at ranks place ≡ Some rank → place < length ranks
within_at ranks place rank at =
    elim (cases_lt place (length ranks)) as (λ _. place < length ranks) [
      | inl within ↦ within
      | inr past ↦ absurd (none-some rank (sym (get_or_past ranks place None past) ∙ at))
    ]

-- one where there is a rank
abbrev pub one : {T : Type 0} → Option T → ℕ
one rank = cond (is_some rank) 1 0

count_written : {T : Type 0} (ranks : List (Option T)) (place : ℕ) (rank : Option T) → place < length ranks
    → count_by is_some (set ranks place rank) + one (rank_at ranks place) ≡ count_by is_some ranks + one rank
count_written {T = T} ranks place rank within = sum_by-set (λ (r : Option T). one r) ranks place rank None within

-- a rank in place of another keeps the count
count_kept : {T : Type 0} (ranks : List (Option T)) (place : ℕ) (old new : T) → rank_at ranks place ≡ Some old
    → count_by is_some (set ranks place (Some new)) ≡ count_by is_some ranks
count_kept {T = T} ranks place old new at =
    let changed = count_written ranks place (Some new) (within_at ranks place old at) in
    let here = ap (λ (r : Option T). one r) at in
    omega arith

count_more : {T : Type 0} (ranks : List (Option T)) (place : ℕ) (new : T) → place < length ranks → rank_at ranks place ≡ None
    → count_by is_some (set ranks place (Some new)) ≡ suc (count_by is_some ranks)
count_more {T = T} ranks place new within at =
    let changed = count_written ranks place (Some new) within in
    let here = ap (λ (r : Option T). one r) at in
    omega arith

count_less : {T : Type 0} (ranks : List (Option T)) (place : ℕ) (old : T) → rank_at ranks place ≡ Some old
    → suc (count_by is_some (set ranks place None)) ≡ count_by is_some ranks
count_less {T = T} ranks place old at =
    let changed = count_written ranks place None (within_at ranks place old at) in
    let here = ap (λ (r : Option T). one r) at in
    omega arith

pub count_none : {T : Type 0} (ranks : List (Option T)) → HasNone ranks → count_by is_some ranks ≡ 0
count_none [] none = refl
count_none {T = T} (rank ∷ ranks) none =
    let first = ap (λ (r : Option T). one r) (none 0) in
    let rest = count_none ranks (λ key. none (suc key)) in
    let step = sum_by-cons (λ (r : Option T). one r) rank ranks in
    omega arith

-- ---- a changed rank
pub top_changed : (k place : ℕ) (rank old : Rank) (top : List (Option Rank)) (rest : List (Option (Reverse Rank))) → IsHalved k top rest
    → rank_at top place ≡ Some old → IsHalvedBut place k (set top place (Some rank)) rest
top_changed k place rank old top rest halved at =
    let same = count_kept top place old rank at in record {
      positive = halved.positive;
      same_room = halved.same_room ∙ sym (length-set top place (Some rank));
      apart = λ p a b in_top in_rest. apart_at p a b in_top in_rest (cases_eq p place);
      before = λ p q a b other _ in_top in_rest. halved.before p q a b (sym (at_other top place p (Some rank) other) ∙ in_top) in_rest;
      few = let few = halved.few in omega arith;
      full = λ q b _ in_rest. same ∙ halved.full q b in_rest;
    }
  where
    apart_at : (p : ℕ) (a : Rank) (b : Reverse Rank) → rank_at (set top place (Some rank)) p ≡ Some a → rank_at rest p ≡ Some b → (p ≡ place) ⊎ (p ≢ place) → ⊥
    apart_at p a b in_top in_rest (inl e) = halved.apart place old b at (ap (rank_at rest) (sym e) ∙ in_rest)
    apart_at p a b in_top in_rest (inr other) = halved.apart p a b (sym (at_other top place p (Some rank) other) ∙ in_top) in_rest

pub rest_changed : (k place : ℕ) (rank : Reverse Rank) (top : List (Option Rank)) (rest : List (Option (Reverse Rank))) → IsHalved k top rest
    → rank_at top place ≡ None → IsHalvedBut place k top (set rest place (Some rank))
rest_changed k place rank top rest halved at = record {
  positive = halved.positive;
  same_room = length-set rest place (Some rank) ∙ halved.same_room;
  apart = λ p a b in_top in_rest. apart_at p a b in_top in_rest (cases_eq p place);
  before = λ p q a b _ other in_top in_rest. halved.before p q a b in_top (sym (at_other rest place q (Some rank) other) ∙ in_rest);
  few = halved.few;
  full = λ q b other in_rest. halved.full q b (sym (at_other rest place q (Some rank) other) ∙ in_rest);
}
  where
    apart_at : (p : ℕ) (a : Rank) (b : Reverse Rank) → rank_at top p ≡ Some a → rank_at (set rest place (Some rank)) p ≡ Some b → (p ≡ place) ⊎ (p ≢ place) → ⊥
    apart_at p a b in_top in_rest (inl e) = none-some a (sym at ∙ ap (rank_at top) (sym e) ∙ in_top)
    apart_at p a b in_top in_rest (inr other) = halved.apart p a b in_top (sym (at_other rest place p (Some rank) other) ∙ in_rest)

-- a place has no rank among the first where it has one among the others
pub absent_from_top : (k changed key : ℕ) (best : Reverse Rank) (top : List (Option Rank)) (rest : List (Option (Reverse Rank)))
    → IsHalvedBut changed k top rest → rank_at rest key ≡ Some best → rank_at top key ≡ None
absent_from_top k changed key best top rest halved at = absent (rank_at top key) refl
  where
    absent : (rank : Option Rank) → rank_at top key ≡ rank → rank_at top key ≡ None
    absent None e = e
    absent (Some a) e = absurd (halved.apart key a best e at)

-- ---- parted anew
-- without others
pub none_left : (k changed : ℕ) (top : List (Option Rank)) (rest : List (Option (Reverse Rank))) → IsHalvedBut changed k top rest → HasNone rest
    → IsHalved k top rest
none_left k changed top rest halved none = record {
  positive = halved.positive;
  same_room = halved.same_room;
  apart = halved.apart;
  before = λ p q a b _ in_rest. absurd (none-some b (sym (none q) ∙ in_rest));
  few = halved.few;
  full = λ q b in_rest. absurd (none-some b (sym (none q) ∙ in_rest));
}

-- with fewer than k among the first
pub raised : (k changed key : ℕ) (best : Reverse Rank) (top : List (Option Rank)) (rest : List (Option (Reverse Rank))) → IsHalvedBut changed k top rest
    → rank_at rest key ≡ Some best → count_by is_some top < k → IsHalved k (set top key (Some best.0)) (set rest key None)
raised k changed key best top rest halved at fewer =
    let within : key < length top = let w = within_at rest key best at in let s = halved.same_room in omega arith in
    let more = count_more top key best.0 within (absent_from_top k changed key best top rest halved at) in record {
      positive = halved.positive;
      same_room = length-set rest key None ∙ halved.same_room ∙ sym (length-set top key (Some best.0));
      apart = λ p a b _ in_rest. no_other p b in_rest (cases_eq p key);
      before = λ p q a b _ in_rest. absurd (no_other q b in_rest (cases_eq q key));
      few = omega arith;
      full = λ q b in_rest. absurd (no_other q b in_rest (cases_eq q key));
    }
  where
    only : (q : ℕ) (b : Reverse Rank) → rank_at rest q ≡ Some b → q ≡ changed
    only q b in_rest = elim (cases_eq q changed) as (λ _. q ≡ changed) [
      | inl e ↦ e
      | inr other ↦ let full = halved.full q b other in_rest in absurd (omega arith)
    ]

    no_other : (q : ℕ) (b : Reverse Rank) → rank_at (set rest key None) q ≡ Some b → (q ≡ key) ⊎ (q ≢ key) → ⊥
    no_other q b in_rest (inl e) =
        none-some b (sym (at_same rest key None (within_at rest key best at)) ∙ ap (rank_at (set rest key None)) (sym e) ∙ in_rest)
    no_other q b in_rest (inr other) =
        other (only q b (sym (at_other rest key q None other) ∙ in_rest) ∙ sym (only key best at))

-- where the first of the others stands no earlier than the last of the first
pub still_parted : (k changed : ℕ) (best : Reverse Rank) (last : Rank) (top : List (Option Rank)) (rest : List (Option (Reverse Rank)))
    → IsHalvedBut changed k top rest → k ≤ count_by is_some top → ((q : ℕ) (b : Reverse Rank) → rank_at rest q ≡ Some b → rank_cmp best.0 b.0 ≢ Greater)
    → ((p : ℕ) (a : Rank) → rank_at top p ≡ Some a → rank_cmp a last ≢ Greater) → is_lt (rank_cmp best.0 last) ≡ false → IsHalved k top rest
still_parted k changed best last top rest halved whole first_other last_first denied = record {
  positive = halved.positive;
  same_room = halved.same_room;
  apart = halved.apart;
  before = λ p q a b in_top in_rest. chain a last b.0 (last_first p a in_top) (chain last best.0 b.0 (not_later best.0 last denied) (first_other q b in_rest));
  few = halved.few;
  full = λ q b _. let few = halved.few in omega arith;
}

-- who stands among the first once the two have changed sides, and who among the others
abbrev IsRaised : ℕ → ℕ → Reverse Rank → List (Option Rank) → ℕ → Rank → Type 0
IsRaised key lastkey best top p a = ((p ≡ key) × (a ≡ best.0)) ⊎ ((p ≢ key) × (p ≢ lastkey) × (rank_at top p ≡ Some a))

abbrev IsLowered : ℕ → ℕ → Rank → List (Option (Reverse Rank)) → ℕ → Reverse Rank → Type 0
IsLowered key lastkey last rest q b = ((q ≡ lastkey) × (b.0 ≡ last)) ⊎ ((q ≢ lastkey) × (q ≢ key) × (rank_at rest q ≡ Some b))

-- where it stands earlier, the two change sides
pub exchanged : (k changed key lastkey : ℕ) (best : Reverse Rank) (last : Rank) (top : List (Option Rank)) (rest : List (Option (Reverse Rank)))
    → IsHalvedBut changed k top rest → k ≤ count_by is_some top → rank_at rest key ≡ Some best → rank_at top lastkey ≡ Some last
    → ((q : ℕ) (b : Reverse Rank) → rank_at rest q ≡ Some b → rank_cmp best.0 b.0 ≢ Greater)
    → ((p : ℕ) (a : Rank) → rank_at top p ≡ Some a → rank_cmp a last ≢ Greater) → is_lt (rank_cmp best.0 last) ≡ true
    → IsHalved k (set (set top key (Some best.0)) lastkey None) (set (set rest key None) lastkey (Some (record { 0 = last })))
exchanged k changed key lastkey best last top rest halved whole at_rest at_top first_other last_first holds =
    let within_rest = within_at rest key best at_rest in
    let within_top = within_at top lastkey last at_top in
    let rooms = halved.same_room in
    let raised_top : List (Option Rank) = set top key (Some best.0) in
    let within : key < length top = omega arith in
    let more = count_more top key best.0 within (absent_from_top k changed key best top rest halved at_rest) in
    let last_there : rank_at raised_top lastkey ≡ Some last = at_other top key lastkey (Some best.0) different ∙ at_top in
    let less = count_less raised_top lastkey last last_there in
    let few = halved.few in record {
      positive = halved.positive;
      same_room =
          length-set (set rest key None) lastkey (Some (record { 0 = last })) ∙ length-set rest key None ∙ rooms
          ∙ sym (length-set raised_top lastkey None ∙ length-set top key (Some best.0));
      apart = λ p a b in_top in_rest. apart_at p a b (from_top p a in_top (cases_eq p lastkey) (cases_eq p key)) (from_rest p b in_rest (cases_eq p lastkey) (cases_eq p key));
      before = λ p q a b in_top in_rest. before_at p q a b (from_top p a in_top (cases_eq p lastkey) (cases_eq p key)) (from_rest q b in_rest (cases_eq q lastkey) (cases_eq q key));
      few = omega arith;
      full = λ q b _. omega arith;
    }
  where
    different : lastkey ≢ key
    different e = halved.apart lastkey last best at_top (ap (rank_at rest) e ∙ at_rest)

    from_top : (p : ℕ) (a : Rank) → rank_at (set (set top key (Some best.0)) lastkey None) p ≡ Some a → (p ≡ lastkey) ⊎ (p ≢ lastkey) → (p ≡ key) ⊎ (p ≢ key)
        → IsRaised key lastkey best top p a
    from_top p a in_top (inl e) _ =
        let within : lastkey < length (set top key (Some best.0)) = rw length-set (within_at top lastkey last at_top) in
        absurd (none-some a (sym (at_same (set top key (Some best.0)) lastkey None within) ∙ ap (rank_at (set (set top key (Some best.0)) lastkey None)) (sym e) ∙ in_top))
    from_top p a in_top (inr other) (inl e) =
        let within : key < length top = let w = within_at rest key best at_rest in let s = halved.same_room in omega arith in
        inl (e, same_Some a best.0 (sym in_top ∙ at_other (set top key (Some best.0)) lastkey p None other ∙ ap (rank_at (set top key (Some best.0))) e ∙ at_same top key (Some best.0) within))
    from_top p a in_top (inr other) (inr apart) =
        inr (apart, other, sym (at_other (set top key (Some best.0)) lastkey p None other ∙ at_other top key p (Some best.0) apart) ∙ in_top)

    from_rest : (q : ℕ) (b : Reverse Rank) → rank_at (set (set rest key None) lastkey (Some (record { 0 = last }))) q ≡ Some b → (q ≡ lastkey) ⊎ (q ≢ lastkey)
        → (q ≡ key) ⊎ (q ≢ key) → IsLowered key lastkey last rest q b
    from_rest q b in_rest (inl e) _ =
        let within : lastkey < length (set rest key None) = let w = within_at top lastkey last at_top in let s = halved.same_room in rw length-set (omega arith) in
        inl (e, ap (λ (r : Reverse Rank). r.0) (same_Some b (record { 0 = last }) (sym in_rest ∙ ap (rank_at (set (set rest key None) lastkey (Some (record { 0 = last })))) e ∙ at_same (set rest key None) lastkey (Some (record { 0 = last })) within)))
    from_rest q b in_rest (inr other) (inl e) =
        absurd (none-some b (sym (at_other (set rest key None) lastkey q (Some (record { 0 = last })) other ∙ ap (rank_at (set rest key None)) e ∙ at_same rest key None (within_at rest key best at_rest)) ∙ in_rest))
    from_rest q b in_rest (inr other) (inr apart) =
        inr (other, apart, sym (at_other (set rest key None) lastkey q (Some (record { 0 = last })) other ∙ at_other rest key q None apart) ∙ in_rest)

    apart_at : (p : ℕ) (a : Rank) (b : Reverse Rank) → IsRaised key lastkey best top p a → IsLowered key lastkey last rest p b → ⊥
    apart_at p a b (inl (e, _)) (inl (e', _)) = different (sym e' ∙ e)
    apart_at p a b (inl (e, _)) (inr (_, other, _)) = other e
    apart_at p a b (inr (_, other, _)) (inl (e, _)) = other e
    apart_at p a b (inr (_, _, in_top)) (inr (_, _, in_rest)) = halved.apart p a b in_top in_rest

    -- only the two that change sides may have been out of order
    top_kept : (p : ℕ) → p ≢ lastkey → (a : Rank) → rank_at top p ≡ Some a → p ≢ changed
    top_kept p other a in_top e =
        let last_kept : lastkey ≢ changed = λ e'. other (e ∙ sym e') in
        let best_kept : key ≢ changed = λ e'. halved.apart p a best in_top (ap (rank_at rest) (e ∙ sym e') ∙ at_rest) in
        not_both best.0 last holds (halved.before lastkey key last best last_kept best_kept at_top at_rest)

    rest_kept : (q : ℕ) → q ≢ key → (b : Reverse Rank) → rank_at rest q ≡ Some b → q ≢ changed
    rest_kept q other b in_rest e =
        let best_kept : key ≢ changed = λ e'. other (e ∙ sym e') in
        let last_kept : lastkey ≢ changed = λ e'. halved.apart q last b (ap (rank_at top) (e ∙ sym e') ∙ at_top) in_rest in
        not_both best.0 last holds (halved.before lastkey key last best last_kept best_kept at_top at_rest)

    before_at : (p q : ℕ) (a : Rank) (b : Reverse Rank) → IsRaised key lastkey best top p a → IsLowered key lastkey last rest q b → rank_cmp a b.0 ≢ Greater
    before_at p q a b (inl (_, is)) (inl (_, is')) =
        subst (λ (r : Rank). rank_cmp r b.0 ≢ Greater) (sym is) (subst (λ (r : Rank). rank_cmp best.0 r ≢ Greater) (sym is') (before_so best.0 last holds))
    before_at p q a b (inl (_, is)) (inr (_, _, in_rest)) = subst (λ (r : Rank). rank_cmp r b.0 ≢ Greater) (sym is) (first_other q b in_rest)
    before_at p q a b (inr (_, _, in_top)) (inl (_, is')) = subst (λ (r : Rank). rank_cmp a r ≢ Greater) (sym is') (last_first p a in_top)
    before_at p q a b (inr (_, other, in_top)) (inr (_, other', in_rest)) =
        halved.before p q a b (top_kept p other a in_top) (rest_kept q other' b in_rest) in_top in_rest

-- a place tested for a rank has one, or has none
pub tested : {T : Type 0} (rank : Option T) → is_some rank ≡ true → (r : T) × (rank ≡ Some r)
tested None e = absurd (false≢true e)
tested (Some r) e = (r, refl)
