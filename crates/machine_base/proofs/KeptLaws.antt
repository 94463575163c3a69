-- What a board keeps, as it is made and when an object's bounds are put.
use Rattle.std.proofs.Common.{◌≡◌, ◌≢◌, ◌⊎◌, inl, inr, ℕ, zero, suc, ◌==◌, ◌<◌, ◌≤◌, Bool, true, false, List, [], ◌∷◌, ◌++◌, Option, Some, None, length, set, is_some, replicate, nat_eq, refl, sym, ap, ◌∙◌, subst, arith}
use Rattle.std.specs.Bool.{MatchBool}
use Rattle.std.specs.declared.cmp.Reverse.{Reverse}
use Rattle.std.specs.List.{count_by, list_any, slice_get}
use Rattle.std.proofs.lemmas.Bool.{cases_eq, cases_lt, false≢true}
use Rattle.std.proofs.lemmas.List.{length-set, length-replicate, length_push, get_or-replicate, get_or_past, get_or_append_left}
use Rattle.std.proofs.lemmas.List.Sorted.{list_any-IsPermutation, length_permutation}
use Rattle.std.proofs.lemmas.List.Sums.{sum_by-cons}
use Rattle.std.proofs.lemmas.Option.{none-some, same_Some, slice_get_within, slice_get-get_or, get_or_from_slice_get}
use Rattle.ranked_list.specs.declared.item.Item.{Item}
use Rattle.containers.specs.Ranks.{rank_at}
use Rattle.containers.specs.Keys.{Keys, FitsRoom}
use Rattle.machine_base.specs.declared.rank.Rank.{Rank}
use Rattle.machine_base.specs.Rank.{item_of}
use Rattle.machine_base.specs.Held.{risen, has_object}
use Rattle.ranked_list.specs.Items.{put_item}
use Rattle.machine_base.specs.Halves.{joined, IsHalved}
use Rattle.machine_base.specs.Kept.{items_in, AreRanksOf, IsBoardKept}
use Rattle.machine_base.proofs.Halving.{at_same, at_other, one}
use Rattle.machine_base.proofs.Joining.{length-joined}
use Rattle.machine_base.proofs.Rising.{risen-permutes, items_distinct, length-items_in, MayHave, risen-written}
use Rattle.machine_base.proofs.BoardLaws.{one_place, HaveOnePlace-joined, lacks_it}
use Rattle.machine_base.proofs.Placing.{none_at}

-- ---- a board without objects
rank_of_none : (n place : ℕ) → rank_at {T = Rank} (replicate n None) place ≡ None
rank_of_none n place =
    elim (cases_lt place n) as (λ _. rank_at {T = Rank} (replicate n None) place ≡ None) [
      | inl within ↦ get_or-replicate n place None None within
      | inr past ↦
          let outside : length (replicate {A = Option Rank} n None) ≤ place = rw length-replicate past in
          get_or_past (replicate n None) place None outside
    ]

items_of_none : (n : ℕ) → items_in (replicate n None) ≡ []
items_of_none zero = refl
items_of_none (suc n) = items_of_none n

pub no_items : (ranks : List (Option Rank)) (room : ℕ) → ranks ≡ replicate room None → risen (items_in ranks) ≡ []
no_items ranks room is = ap (λ (r : List (Option Rank)). risen (items_in r)) is ∙ ap risen (items_of_none room)

pub kept_none : (places : Keys) (k room : ℕ) (top : List (Option Rank)) (rest : List (Option (Reverse Rank))) → places ≡ record { room = room; keys = [] }
    → room ≤ 200000 → IsHalved k top rest → joined top rest ≡ replicate room None → IsBoardKept places k top rest
kept_none places k room top rest is few halved empty =
    subst (λ (p : Keys). IsBoardKept p k top rest) (sym is) (record {
      fits = record { few = few; within = omega arith; distinct = λ i j d below within. absurd (omega arith) };
      size = sym (length-joined top rest) ∙ ap length empty ∙ length-replicate room None;
      halved = halved;
      ranks = record {
        own = λ place rank at. absurd (none-some rank (sym (ap (λ (r : List (Option Rank)). rank_at r place) empty ∙ rank_of_none room place) ∙ at));
        each = λ place within. absurd (omega arith);
      };
    })

-- ---- how many objects there are
at_least : (n : ℕ) (ranks : List (Option Rank)) → ((place : ℕ) → place < n → is_some (rank_at ranks place) ≡ true) → n ≤ count_by is_some ranks
at_least zero ranks each = omega arith
at_least (suc n) [] each = absurd (false≢true (each 0 (omega arith)))
at_least (suc n) (None ∷ ranks) each = absurd (false≢true (each 0 (omega arith)))
at_least (suc n) (Some first ∷ ranks) each =
    let more = at_least n ranks (λ place below. each (suc place) (omega arith)) in
    omega (arith, more, sum_by-cons (λ (r : Option Rank). one r) (Some first) ranks)

-- an object without a place has no item
pub unplaced : (places : Keys) (k object : ℕ) (top : List (Option Rank)) (rest : List (Option (Reverse Rank))) → IsBoardKept places k top rest
    → list_any (nat_eq object) places.keys ≡ false → has_object object (risen (items_in (joined top rest))) ≡ false
unplaced places k object top rest kept none =
    let ranks = joined top rest in
    let apart = items_distinct ranks (HaveOnePlace-joined places.keys ranks kept.fits.distinct kept.ranks) in
    sym (list_any-IsPermutation (λ (item : Item). item.object == object) (items_in ranks) (risen (items_in ranks)) (risen-permutes (items_in ranks) apart))
    ∙ lacks_it object ranks (λ place rank at same. none_at object places.keys place none (kept.ranks.own place rank at ∙ ap (λ (o : ℕ). Some o) same))

pub places_counted : (places : Keys) (k : ℕ) (top : List (Option Rank)) (rest : List (Option (Reverse Rank))) → IsBoardKept places k top rest
    → length places.keys ≤ length (risen (items_in (joined top rest)))
places_counted places k top rest kept =
    let ranks = joined top rest in
    let apart = items_distinct ranks (HaveOnePlace-joined places.keys ranks kept.fits.distinct kept.ranks) in
    let size = length_permutation (items_in ranks) (risen (items_in ranks)) (risen-permutes (items_in ranks) apart) ∙ length-items_in ranks in
    let enough = at_least (length places.keys) ranks kept.ranks.each in
    omega arith

-- ---- an object's bounds are put
-- the places after, of which one is the object's, and which begin with those before
record IsPlaced (object place : ℕ) (before after : List ℕ) : Type 0 where
  pub at : slice_get after place ≡ Some object
  pub extends : (p o : ℕ) → slice_get before p ≡ Some o → slice_get after p ≡ Some o
  pub longer : (p : ℕ) → p < length after → (p ≡ place) ⊎ (p < length before)

placed : (object place : ℕ) (before after : List ℕ) → slice_get after place ≡ Some object
    → MatchBool (list_any (nat_eq object) before) (after ≡ before) (after ≡ before ++ object ∷ []) → IsPlaced object place before after
placed object place before after at added = by_case (list_any (nat_eq object) before) refl added
  where
    by_case : (found : Bool) → list_any (nat_eq object) before ≡ found → MatchBool found (after ≡ before) (after ≡ before ++ object ∷ [])
        → IsPlaced object place before after
    by_case true _ is = record {
      at = at;
      extends = λ p o here. ap (λ (ks : List ℕ). slice_get ks p) is ∙ here;
      longer = λ p within. let size = ap length is in inr (omega arith);
    }
    by_case false none is = record {
      at = at;
      extends = λ p o here.
          let within = slice_get_within before p o here in
          let size = length_push before object in
          let inside : p < length (before ++ object ∷ []) = omega arith in
          ap (λ (ks : List ℕ). slice_get ks p) is ∙ slice_get-get_or (before ++ object ∷ []) p o inside
          ∙ ap (λ (x : ℕ). Some x) (get_or_append_left before (object ∷ []) o p within ∙ get_or_from_slice_get before p o o here);
      longer = λ p within.
          let size = ap length is ∙ length_push before object in
          let inside = slice_get_within after place object at in
          elim (cases_lt place (length before)) as (λ _. (p ≡ place) ⊎ (p < length before)) [
            | inl early ↦ absurd (none_at object before place none (in_front early))
            | inr last ↦ elim (cases_eq p place) as (λ _. (p ≡ place) ⊎ (p < length before)) [
              | inl e ↦ inl e
              | inr other ↦ inr (let less : p < length before = omega arith in less)
            ]
          ];
    }
      where
        in_front : place < length before → slice_get before place ≡ Some object
        in_front early =
            let size = length_push before object in
            let inside : place < length (before ++ object ∷ []) = omega arith in
            slice_get-get_or before place object early
            ∙ ap (λ (x : ℕ). Some x) (sym (get_or_append_left before (object ∷ []) object place early)) ∙ sym (slice_get-get_or (before ++ object ∷ []) place object inside)
            ∙ ap (λ (ks : List ℕ). slice_get ks place) (sym is) ∙ at

module _ (places after : Keys) (k object place : ℕ) (rank : Rank) (top : List (Option Rank)) (rest : List (Option (Reverse Rank))) (kept : IsBoardKept places k top rest) (of_object : rank.object ≡ object) (fits : FitsRoom after) (same_room : after.room ≡ places.room) (at : slice_get after.keys place ≡ Some object) (added : MatchBool (list_any (nat_eq object) places.keys) (after.keys ≡ places.keys) (after.keys ≡ places.keys ++ object ∷ [])) where
  pub place_within : place < length top
  place_within =
      let inside = slice_get_within after.keys place object at in
      let size = kept.size in
      let within = fits.within in
      omega arith

  may_have : MayHave (joined top rest) place rank
  may_have =
      let is = placed object place places.keys after.keys at added in record {
        within = rw length-joined place_within;
        same = λ old here. same_Some old.object rank.object (sym (is.extends place old.object (kept.ranks.own place old here)) ∙ at ∙ ap (λ (o : ℕ). Some o) (sym of_object));
        others = λ other another apart here same.
            apart (one_place after.keys fits.distinct other place object (is.extends other another.object (kept.ranks.own other another here) ∙ ap (λ (o : ℕ). Some o) (same ∙ of_object)) at);
      }

  pub items_put : (top' : List (Option Rank)) (rest' : List (Option (Reverse Rank))) → joined top' rest' ≡ set (joined top rest) place (Some rank)
      → risen (items_in (joined top' rest')) ≡ put_item (item_of rank) (risen (items_in (joined top rest)))
  items_put top' rest' is = ap (λ (r : List (Option Rank)). risen (items_in r)) is ∙ risen-written (joined top rest) place rank may_have

  written_ranks : AreRanksOf after.keys (set (joined top rest) place (Some rank))
  written_ranks =
      let is = placed object place places.keys after.keys at added in
      let within : place < length (joined top rest) = rw length-joined place_within in record {
        own = λ p r here. own_at p r here (cases_eq p place);
        each = λ p below. each_at p (is.longer p below) (cases_eq p place);
      }
    where
      own_at : (p : ℕ) (r : Rank) → rank_at (set (joined top rest) place (Some rank)) p ≡ Some r → (p ≡ place) ⊎ (p ≢ place)
          → slice_get after.keys p ≡ Some r.object
      own_at p r here (inl e) =
          let within : place < length (joined top rest) = rw length-joined place_within in
          let same : rank ≡ r = same_Some rank r (sym (at_same (joined top rest) place (Some rank) within) ∙ ap (rank_at (set (joined top rest) place (Some rank))) (sym e) ∙ here) in
          ap (slice_get after.keys) e ∙ at ∙ ap (λ (o : ℕ). Some o) (sym of_object ∙ ap (λ (x : Rank). x.object) same)
      own_at p r here (inr other) =
          (placed object place places.keys after.keys at added).extends p r.object (kept.ranks.own p r (sym (at_other (joined top rest) place p (Some rank) other) ∙ here))

      each_at : (p : ℕ) → (p ≡ place) ⊎ (p < length places.keys) → (p ≡ place) ⊎ (p ≢ place)
          → is_some (rank_at (set (joined top rest) place (Some rank)) p) ≡ true
      each_at p which (inl e) =
          let within : place < length (joined top rest) = rw length-joined place_within in
          ap (λ q. is_some (rank_at (set (joined top rest) place (Some rank)) q)) e ∙ ap is_some (at_same (joined top rest) place (Some rank) within)
      each_at p (inl e) (inr other) = absurd (other e)
      each_at p (inr below) (inr other) = ap is_some (at_other (joined top rest) place p (Some rank) other) ∙ kept.ranks.each p below

  pub kept_put : (top' : List (Option Rank)) (rest' : List (Option (Reverse Rank))) → IsHalved k top' rest'
      → joined top' rest' ≡ set (joined top rest) place (Some rank) → IsBoardKept after k top' rest'
  kept_put top' rest' halved is = record {
    fits = fits;
    size =
        sym (length-joined top' rest') ∙ ap length is ∙ length-set (joined top rest) place (Some rank) ∙ length-joined top rest ∙ kept.size ∙ sym same_room;
    halved = halved;
    ranks = subst (λ (r : List (Option Rank)). AreRanksOf after.keys r) (sym is) written_ranks;
  }
