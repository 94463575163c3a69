-- The walk over the candidates: what each step keeps, and what its end tells.
use Rattle.std.proofs.Common.{◌≡◌, ◌≢◌, ◌⊎◌, inl, inr, ℕ, ◌+◌, ◌<◌, ◌≤◌, true, cond, List, length, set, Option, Some, None, is_some, count_by, nat_eq, position, refl, sym, ap, subst, ◌∙◌, arith}
use Rattle.std.specs.List.{slice_get}
use Rattle.std.proofs.lemmas.Bool.{cases_eq, cases_lt, false≢true}
use Rattle.std.proofs.lemmas.List.{length-set, get_or-set_same, get_or-set_other}
use Rattle.std.proofs.lemmas.List.Sums.{sum_by-set}
use Rattle.std.proofs.lemmas.Option.{none-some, same_Some, slice_get_within}
use Rattle.topk_theory.specs.declared.access.Access.{Access}
use Rattle.topk_theory.specs.Transcript.{seen_objects}
use Rattle.topk_theory.specs.Bounds.{low, high}
use Rattle.topk_theory.proofs.Agreement.{seen_distinct}
use Rattle.access_log.proofs.RecordKept.{placed}
use Rattle.containers.specs.Ranks.{rank_at}
use Rattle.containers.specs.declared.slots.Entry.{Entry}
use Rattle.containers.specs.Slots.{Slots, HasNoSlot, AreDistinctKeys}
use Rattle.containers.proofs.Getting.{get_set_same, get_set_other}
use Rattle.nra_core.specs.Late.{IsLeastLow, AreOthersWithin, without, exchanged}
use Rattle.nra_core.proofs.Members.{exchange_least}
use Rattle.nra_core.proofs.Candidates.{keeps_of_giving_up, keeps_of_tie, within_candidates, not_within_with_witness, keeps_same, least_same}
use Rattle.ranked_list.proofs.OptionLaws.{option_cases}
use Rattle.nra_core.specs.LatePlaces.{at_place, is_first, is_candidate, IsLate, IsToLeave, AreOpenFrom, GivesPlace}
use Rattle.nra_core.proofs.Places.{place_at, at_without, at_exchanged, has_place, has_from, has_replaced, has_high, high_removed}
use Rattle.nra_core.proofs.Noted.{slot_of_first}

-- what the walk keeps: the bound is the least low of the first, and no slot before the next is to leave
pub record Walks (V : List ℕ → ℕ) (k m : ℕ) (A : List Access) (bound : ℕ) (first : Slots) (candidates : List (Option ℕ)) (from : ℕ) : Type 0 where
  pub late : IsLate V k m A first candidates
  pub least : IsLeastLow (low V m A) (is_first A first.entries) bound
  pub open_before : AreOpenFrom V m A bound first.entries 0 from

-- the object of a candidate's place is a candidate
pub candidate_at : (A : List Access) (candidates : List (Option ℕ)) (place object kept : ℕ) → rank_at candidates place ≡ Some kept
    → slice_get (seen_objects A) place ≡ Some object → is_candidate A candidates object ≡ true
candidate_at A candidates place object kept at there =
    ap (at_place (has_high candidates)) (place_at (seen_objects A) place object (seen_distinct A) there) ∙ ap (λ (o : Option ℕ). is_some o) at

-- and a candidate has a place with a kept high
place_of_candidate : (A : List Access) (candidates : List (Option ℕ)) (object : ℕ) → is_candidate A candidates object ≡ true
    → (place kept : ℕ) × (rank_at candidates place ≡ Some kept) × (slice_get (seen_objects A) place ≡ Some object)
place_of_candidate A candidates object t =
    elim (option_cases (position (nat_eq object) (seen_objects A))) [
      | inl none ↦ absurd (false≢true (sym (ap (at_place (has_high candidates)) none) ∙ t))
      | inr some ↦ (
          let has : has_high candidates some.0 ≡ true = sym (ap (at_place (has_high candidates)) some.1) ∙ t in
          elim (option_cases (rank_at candidates some.0)) [
            | inl none ↦ absurd (false≢true (sym (ap (λ (o : Option ℕ). is_some o) none) ∙ has))
            | inr kept ↦ (some.0, kept.0, kept.1, placed object some.0 (seen_objects A) some.1)
          ])
    ]

removed_was : (candidates : List (Option ℕ)) (place other kept : ℕ) → place < length candidates
    → rank_at (set candidates place None) other ≡ Some kept → rank_at candidates other ≡ Some kept
removed_was candidates place other kept lt at =
    elim (cases_eq other place) [
      | inl same ↦ absurd (none-some kept (sym (get_or-set_same candidates place None None lt) ∙ ap (λ q. rank_at (set candidates place None) q) (sym same) ∙ at))
      | inr n ↦ sym (get_or-set_other candidates place other None None n) ∙ at
    ]

-- without it there is one candidate less
pub one_less : (candidates now : List (Option ℕ)) (place kept : ℕ) → place < length candidates → rank_at candidates place ≡ Some kept
    → now ≡ set candidates place None → count_by is_some now < count_by is_some candidates
one_less candidates now place kept lt at is =
    let was : cond {A = ℕ} (is_some (rank_at candidates place)) 1 0 ≡ 1 = ap (λ (o : Option ℕ). cond {A = ℕ} (is_some o) 1 0) at in
    let moved : count_by is_some (set candidates place None) + cond {A = ℕ} (is_some (rank_at candidates place)) 1 0 ≡ count_by is_some candidates + 0 = sum_by-set (λ (o : Option ℕ). cond {A = ℕ} (is_some o) 1 0) candidates place None None lt in
    let same : count_by is_some now ≡ count_by is_some (set candidates place None) = ap (λ (cs : List (Option ℕ)). count_by is_some cs) is in
    omega arith

-- it has a place in the room
pub candidate_within : (V : List ℕ → ℕ) (k m : ℕ) (A : List Access) (first : Slots) (candidates : List (Option ℕ)) (place kept : ℕ)
    → IsLate V k m A first candidates → rank_at candidates place ≡ Some kept → (place < first.room) × (place < length candidates)
candidate_within V k m A first candidates place kept late at =
    let l = late.waiting place kept at in
    let r = late.room in
    let f = late.fits in
    (omega arith, omega arith)

-- ---- a candidate whose high is no greater than the bound is given up
pub walked_given_up : (V : List ℕ → ℕ) (k m : ℕ) (A : List Access) (bound : ℕ) (first : Slots) (candidates : List (Option ℕ)) (from place object kept : ℕ)
    → Walks V k m A bound first candidates from → rank_at candidates place ≡ Some kept → slice_get (seen_objects A) place ≡ Some object
    → high V m A object ≤ bound → Walks V k m A bound first (set candidates place None) from
walked_given_up V k m A bound first candidates from place object kept walks at there within =
    let late = walks.late in
    let seen = seen_objects A in
    let now = set candidates place None in
    let lt : place < length candidates = (let l = late.waiting place kept at in let r = late.room in let f = late.fits in omega arith) in
    let size : length now ≡ length candidates = length-set candidates place None in
    record {
      late = record {
        asked = late.asked;
        most = late.most;
        room = size ∙ late.room;
        fits = late.fits;
        full = late.full;
        keeps = keeps_same k (low V m A) (high V m A) seen (is_first A first.entries) (is_first A first.entries) (without (is_candidate A candidates) object) (is_candidate A now) (λ x. refl)
            (λ x. at_without seen (has_high candidates) (has_high now) place object x (seen_distinct A) there (λ q. high_removed candidates place q lt))
            (keeps_of_giving_up k (low V m A) (high V m A) seen (is_first A first.entries) (is_candidate A candidates) bound object late.keeps walks.least within);
        distinct = late.distinct;
        places = late.places;
        lows = late.lows;
        waiting = λ p kept_p e. late.waiting p kept_p (removed_was candidates place p kept_p lt e);
        highs = λ p x kept_p e there_x. late.highs p x kept_p (removed_was candidates place p kept_p lt e) there_x;
      };
      least = walks.least;
      open_before = walks.open_before;
    }

-- ---- a candidate whose low is the bound takes the place of one that is to leave
pub walked_exchanged : (V : List ℕ → ℕ) (k m : ℕ) (A : List Access) (bound : ℕ) (first : Slots) (candidates : List (Option ℕ)) (from slot place object kept : ℕ)
    → Walks V k m A bound first candidates from → rank_at candidates place ≡ Some kept → slice_get (seen_objects A) place ≡ Some object → bound < high V m A object
    → bound ≤ low V m A object → GivesPlace V m A bound first.entries from slot → HasNoSlot first.entries place
    → AreDistinctKeys (set first.entries slot (record { key = place; rank = bound }))
    → Walks V k m A bound (record first { entries = set first.entries slot (record { key = place; rank = bound }) }) (set candidates place None) (slot + 1)
walked_exchanged V k m A bound first candidates from slot place object kept walks at there above no_less gives none distinct =
    let late = walks.late in
    let seen = seen_objects A in
    let leaves = gives.leaves in
    let old : Entry = leaves.entry in
    let left : ℕ = leaves.object in
    let new : Entry = record { key = place; rank = bound } in
    let entries = set first.entries slot new in
    let now = set candidates place None in
    let of = late.keeps.apart object (candidate_at A candidates place object kept at there) in
    let reached = walks.least.reached in
    let upto : low V m A object ≤ low V m A reached.0 = late.keeps.first.greatest reached.0 object reached.1 of.0 of.1 in
    let tied : low V m A object ≡ bound = (let e = reached.2 in omega arith) in
    let left_low : low V m A left ≡ bound = sym (late.lows slot left old leaves.there leaves.place) ∙ leaves.tied in
    let member : is_first A first.entries left ≡ true = ap (at_place (has_place first.entries)) (place_at seen old.key left (seen_distinct A) leaves.place) ∙ has_from first.entries slot old leaves.there in
    let lt = slice_get_within first.entries slot old leaves.there in
    let place_within = late.waiting place kept at in
    let room : place < length candidates = (let r = late.room in let f = late.fits in omega arith) in
    let size : length now ≡ length candidates = length-set candidates place None in
    let same_first : (x : ℕ) → is_first A entries x ≡ exchanged (is_first A first.entries) left object x = λ x.
    at_exchanged seen (has_place first.entries) (has_place entries) old.key place left object x (seen_distinct A) leaves.place there
    (λ q. has_replaced first.entries slot old new q late.distinct leaves.there none) in
    let before : (s : ℕ) (entry : Entry) → s ≢ slot → slice_get entries s ≡ Some entry → slice_get first.entries s ≡ Some entry = λ s entry n e. sym (get_set_other first.entries slot s new n) ∙ e in
    record {
      late = record {
        asked = late.asked;
        most = late.most;
        room = size ∙ late.room;
        fits = late.fits;
        full = length-set first.entries slot new ∙ late.full;
        keeps = keeps_same k (low V m A) (high V m A) seen (exchanged (is_first A first.entries) left object) (is_first A entries) (without (is_candidate A candidates) object) (is_candidate A now) same_first
            (λ x. at_without seen (has_high candidates) (has_high now) place object x (seen_distinct A) there (λ q. high_removed candidates place q room))
            (keeps_of_tie k (low V m A) (high V m A) seen (is_first A first.entries) (is_candidate A candidates) bound object left (seen_distinct A) late.keeps walks.least (candidate_at A candidates place object kept at there) tied member left_low leaves.within);
        distinct = distinct;
        places = λ s entry e. elim (cases_eq s slot) [
          | inl same ↦ (
              let is : new ≡ entry = same_Some new entry (sym (get_set_same first.entries slot new lt) ∙ ap (slice_get entries) (sym same) ∙ e) in
              let key : place ≡ entry.key = ap (λ (x : Entry). x.key) is in
              omega arith)
          | inr n ↦ late.places s entry (before s entry n e)
        ];
        lows = λ s x entry e there_x. elim (cases_eq s slot) [
          | inl same ↦ (
              let is : new ≡ entry = same_Some new entry (sym (get_set_same first.entries slot new lt) ∙ ap (slice_get entries) (sym same) ∙ e) in
              let same_object : object ≡ x = same_Some object x (sym there ∙ ap (λ (y : Entry). slice_get seen y.key) is ∙ there_x) in
              sym (ap (λ (y : Entry). y.rank) is) ∙ sym tied ∙ ap (low V m A) same_object)
          | inr n ↦ late.lows s x entry (before s entry n e) there_x
        ];
        waiting = λ p kept_p e. late.waiting p kept_p (removed_was candidates place p kept_p room e);
        highs = λ p x kept_p e there_x. late.highs p x kept_p (removed_was candidates place p kept_p room e) there_x;
      };
      least = least_same (low V m A) (exchanged (is_first A first.entries) left object) (is_first A entries) bound same_first
          (exchange_least (low V m A) (is_first A first.entries) bound left object walks.least tied);
      open_before = λ s _ below is_to. elim (cases_eq s slot) [
        | inl same ↦ (
            let is : new ≡ is_to.entry = same_Some new is_to.entry (sym (get_set_same first.entries slot new lt) ∙ ap (slice_get entries) (sym same) ∙ is_to.there) in
            let same_object : object ≡ is_to.object = same_Some object is_to.object (sym there ∙ ap (λ (y : Entry). slice_get seen y.key) is ∙ is_to.place) in
            let equal : high V m A object ≡ high V m A is_to.object = ap (high V m A) same_object in
            let within = is_to.within in
            omega arith)
        | inr n ↦ (
            let was : IsToLeave V m A bound first.entries s = record {
              entry = is_to.entry;
              object = is_to.object;
              there = before s is_to.entry n is_to.there;
              place = is_to.place;
              tied = is_to.tied;
              within = is_to.within;
            } in
            elim (cases_lt s from) [ inl early ↦ walks.open_before s (omega arith) early was | inr late_one ↦ gives.open_before s late_one (omega arith) was ])
      ];
    }

-- ---- the end of the walk
-- no kept high is above the bound
pub walk_within : (V : List ℕ → ℕ) (k m : ℕ) (A : List Access) (bound : ℕ) (first : Slots) (candidates : List (Option ℕ)) (from : ℕ)
    → Walks V k m A bound first candidates from → ((place kept : ℕ) → rank_at candidates place ≡ Some kept → kept ≤ bound)
    → AreOthersWithin (low V m A) (high V m A) (seen_objects A) (is_first A first.entries) bound
walk_within V k m A bound first candidates from walks none =
    within_candidates k (low V m A) (high V m A) (seen_objects A) (is_first A first.entries) (is_candidate A candidates) bound walks.late.keeps walks.least
    (λ object t. let r = place_of_candidate A candidates object t in
    let upto = walks.late.highs r.0 object r.1 r.2 r.3 in
    let below = none r.0 r.1 r.2 in
    omega arith)

-- a candidate with a high above the bound has no place among the first
pub walk_witness : (V : List ℕ → ℕ) (k m : ℕ) (A : List Access) (bound : ℕ) (first : Slots) (candidates : List (Option ℕ)) (from place object kept : ℕ)
    → Walks V k m A bound first candidates from → rank_at candidates place ≡ Some kept → slice_get (seen_objects A) place ≡ Some object
    → bound < high V m A object → (low V m A object < bound) ⊎ AreOpenFrom V m A bound first.entries from (length first.entries)
    → ¬ AreOthersWithin (low V m A) (high V m A) (seen_objects A) (is_first A first.entries) bound
walk_witness V k m A bound first candidates from place object kept walks at there above reason =
    let late = walks.late in
    let of = late.keeps.apart object (candidate_at A candidates place object kept at there) in
    let reached = walks.least.reached in
    let upto : low V m A object ≤ low V m A reached.0 = late.keeps.first.greatest reached.0 object reached.1 of.0 of.1 in
    not_within_with_witness (low V m A) (high V m A) (seen_objects A) (is_first A first.entries) bound object of.0 of.1 (record {
      above = above;
      no_place = elim (cases_lt (low V m A object) bound) [
        | inl less ↦ inl less
        | inr no_less ↦ elim reason [
          | inl less ↦ inl less
          | inr none ↦ inr (
            (let e = reached.2 in let is : low V m A object ≡ bound = omega arith in is),
            λ inside t tied.
                let r = slot_of_first A first.entries inside t in
                elim (cases_lt bound (high V m A inside)) [
                  | inl over ↦ over
                  | inr within ↦ absurd (
                      let leaves : IsToLeave V m A bound first.entries r.0 = record {
                        entry = r.1;
                        object = inside;
                        there = r.2;
                        place = r.3;
                        tied = late.lows r.0 inside r.1 r.2 r.3 ∙ tied;
                        within = within;
                      } in
                      let lt = slice_get_within first.entries r.0 r.1 r.2 in
                      elim (cases_lt r.0 from) [ inl before ↦ walks.open_before r.0 (omega arith) before leaves | inr after ↦ none r.0 after lt leaves ])
                ],
          )
        ]
      ];
    })

-- ---- the search for a slot that is to leave
pub open_more : (V : List ℕ → ℕ) (m : ℕ) (A : List Access) (bound : ℕ) (entries : List Entry) (from slot : ℕ) → AreOpenFrom V m A bound entries from slot
    → (¬ IsToLeave V m A bound entries slot) → AreOpenFrom V m A bound entries from (slot + 1)
open_more V m A bound entries from slot before here = λ s after below leaves. elim (cases_eq s slot) [
  | inl same ↦ here (subst (λ q. IsToLeave V m A bound entries q) same leaves)
  | inr n ↦ before s after (omega arith) leaves
]

pub not_tied : (V : List ℕ → ℕ) (m : ℕ) (A : List Access) (bound : ℕ) (entries : List Entry) (slot : ℕ) (entry : Entry) → slice_get entries slot ≡ Some entry
    → entry.rank ≢ bound → ¬ IsToLeave V m A bound entries slot
not_tied V m A bound entries slot entry at apart = λ leaves. apart (ap (λ (x : Entry). x.rank) (same_Some entry leaves.entry (sym at ∙ leaves.there)) ∙ leaves.tied)

pub not_within : (V : List ℕ → ℕ) (m : ℕ) (A : List Access) (bound : ℕ) (entries : List Entry) (slot object : ℕ) (entry : Entry)
    → slice_get entries slot ≡ Some entry
    → slice_get (seen_objects A) entry.key ≡ Some object → bound < high V m A object → ¬ IsToLeave V m A bound entries slot
not_within V m A bound entries slot object entry at there above = λ leaves.
    let is : entry ≡ leaves.entry = same_Some entry leaves.entry (sym at ∙ leaves.there) in
    let same : object ≡ leaves.object = same_Some object leaves.object (sym there ∙ ap (λ (x : Entry). slice_get (seen_objects A) x.key) is ∙ leaves.place) in
    let equal : high V m A object ≡ high V m A leaves.object = ap (high V m A) same in
    let within = leaves.within in
    omega arith
