-- The objects that a tame transcript hasn't seen: of them it knows nothing, so their high is the same.
use Rattle.std.proofs.Common.{◌≡◌, ◌≢◌, ℕ, zero, suc, ◌+◌, ◌-◌, ◌<◌, ◌≤◌, ◌⊎◌, inl, inr, Bool, true, false, not, List, [], ◌∷◌, length, take, filter, All, AllPairs, Contains, Option, Some, None, refl, sym, ap, subst, ◌∙◌, arith, length-append}
use Rattle.std.specs.List.{range_with_len}
use Rattle.std.proofs.lemmas.Bool.{cases_lt, cond-true, cond-false, not-true}
use Rattle.std.proofs.lemmas.List.Elements.{Contains-append_left, Contains-append_right, Contains-append_cases}
use Rattle.std.proofs.lemmas.List.Kept.{AllPairs-cons}
use Rattle.topk_theory.specs.declared.access.Access.{Access}
use Rattle.topk_theory.specs.Transcript.{IsTame, seen_objects}
use Rattle.topk_theory.specs.Bounds.{high}
use Rattle.topk_theory.specs.Adversary.{unnamed, object_set}
use Rattle.topk_theory.proofs.AgreementLists.{contains_nil, contains_here, contains_cases, all_from_members, distinct_fits, take_within}
use Rattle.topk_theory.proofs.AgreementNames.{has, contains_has, has_not, not_has}
use Rattle.topk_theory.proofs.Consistent.{object_set_is}
use Rattle.topk_theory.proofs.ConsistentRows.{filter_from}
use Rattle.topk_theory.proofs.ListNumbers.{number_below}
use Rattle.topk_theory.proofs.Unseen.{unseen_high}
use Rattle.access_log.specs.Log.{Log}
use Rattle.cert_judge.specs.declared.bound.Bound.{Bound}
use Rattle.cert_judge.specs.Extremes.{FindsGreatest, greater}
use Rattle.cert_judge.specs.Outside.{IsOneOutside, HasNoUnseen, IsLeastUnseen}
use Rattle.cert_judge.specs.Deciding.{IsOutside}
use Rattle.cert_judge.proofs.Extreme.{greatest_step, greatest_over}
use Rattle.cert_judge.proofs.Tame.{named_is_seen}

pub same_high : (V : List ℕ → ℕ) (m : ℕ) (A : List Access) (one other : ℕ) → IsTame A → (¬ Contains (seen_objects A) one) → (¬ Contains (seen_objects A) other)
    → high V m A one ≡ high V m A other
same_high V m A one other tame unseen hidden = unseen_high V m A one tame unseen ∙ sym (unseen_high V m A other tame hidden)

-- the smallest ids that aren't among the names
pub set_cases : (n : ℕ) (names : List ℕ) (o : ℕ) → Contains (object_set n names) o → Contains names o ⊎ ((o < n) × (¬ Contains names o) × (length names < n))
set_cases n names o c =
    elim (Contains-append_cases names (take (n - length names) (unnamed n names)) o c) [
      | inl t ↦ inl t
      | inr t ↦
          let from = filter_from (λ z. not (has z names)) (range_with_len 0 n) o (take_within (n - length names) (unnamed n names) o t) in
          inr (number_below n o from.0, has_not o names (not-true (has o names) from.1), room n names o t)
    ]
  where
    room : (n : ℕ) (names : List ℕ) (o : ℕ) → Contains (take (n - length names) (unnamed n names)) o → length names < n
    room n names o t =
        elim (cases_lt (length names) n) [
          | inl l ↦ l
          | inr full ↦ let none : n - length names ≡ 0 = omega arith in
              absurd (contains_nil o (subst (λ k. Contains (take k (unnamed n names)) o) none t))
        ]

first_kept : (p : ℕ → Bool) (start count u : ℕ) → start ≤ u → u < start + count → p u ≡ true → ((k : ℕ) → start ≤ k → k < u → p k ≡ false)
    → (rest : List ℕ) × (filter p (range_with_len start count) ≡ u ∷ rest)
first_kept p start zero u low high keeps skips = absurd (omega arith)
first_kept p start (suc count) u low high keeps skips =
    elim (cases_lt start u) [
      | inl l ↦
          let r = first_kept p (start + 1) count u (omega arith) (omega arith) keeps (λ k a b. skips k (omega arith) b) in
          (r.0, cond-false (p start) (start ∷ filter p (range_with_len (start + 1) count)) (filter p (range_with_len (start + 1) count)) (skips start (omega arith) l) ∙ r.1)
      | inr g ↦
          let same : start ≡ u = omega arith in (
            filter p (range_with_len (start + 1) count),
            cond-true (p start) (start ∷ filter p (range_with_len (start + 1) count)) (filter p (range_with_len (start + 1) count)) (ap p same ∙ keeps)
                ∙ ap (λ z. z ∷ filter p (range_with_len (start + 1) count)) same,
          )
    ]

-- the smallest of them is there, if there is place
pub least_in_set : (n : ℕ) (names : List ℕ) (u : ℕ) → length names < n → u < n → (¬ Contains names u) → ((k : ℕ) → k < u → Contains names k)
    → Contains (object_set n names) u
least_in_set n names u l below new others =
    let p : ℕ → Bool = λ z. not (has z names) in
    let r = first_kept p 0 n u (omega arith) (omega arith) (ap not (not_has u names new)) (λ k a b. ap not (contains_has k names (others k b))) in
    Contains-append_right names (take (n - length names) (unnamed n names)) u
    (subst (λ xs. Contains (take (n - length names) xs) u) (sym r.1) (head_taken (n - length names) u r.0 (omega arith)))
  where
    head_taken : (k u : ℕ) (rest : List ℕ) → 0 < k → Contains (take k (u ∷ rest)) u
    head_taken zero u rest l = absurd (omega arith)
    head_taken (suc k) u rest l = contains_here u (take k rest)

-- an object outside the answer was seen, or is one of the smallest others
pub outside_cases : (log : Log) (Y : List ℕ) (o : ℕ) → IsTame log.accesses → IsOutside log Y o
    → IsOneOutside (seen_objects log.accesses) Y o ⊎ ((o < log.count) × (¬ Contains (seen_objects log.accesses) o) × (length (seen_objects log.accesses) < log.count))
outside_cases log Y o tame h =
    let names = named_is_seen log.accesses tame in
    elim (set_cases log.count (seen_objects log.accesses) o (subst (λ s. Contains (object_set log.count s) o) names h.there)) [
      | inl c ↦ inl (record { among = c; outside = h.outside })
      | inr r ↦ inr r
    ]

pub seen_outside : (log : Log) (Y : List ℕ) (o : ℕ) → IsTame log.accesses → IsOneOutside (seen_objects log.accesses) Y o → IsOutside log Y o
seen_outside log Y o tame h = record {
  there = subst (λ s. Contains (object_set log.count s) o) (sym (named_is_seen log.accesses tame))
      (Contains-append_left (seen_objects log.accesses) (take (log.count - length (seen_objects log.accesses)) (unnamed log.count (seen_objects log.accesses))) o h.among);
  outside = h.outside;
}

pub all_seen_outside : (f : ℕ → ℕ) (log : Log) (Y : List ℕ) (best : Option Bound) → IsTame log.accesses
    → FindsGreatest f (IsOneOutside (seen_objects log.accesses) Y) best
    → HasNoUnseen log.accesses log.count
    → FindsGreatest f (IsOutside log Y) best
all_seen_outside f log Y best tame h none =
    greatest_over f (IsOneOutside (seen_objects log.accesses) Y) (IsOutside log Y) best h (λ o p. seen_outside log Y o tame p)
    (λ o q. elim (outside_cases log Y o tame q) [ inl p ↦ p | inr r ↦ absurd (r.1 (none r.2 o r.0)) ])

-- the smallest unseen id stands for all unseen objects
tied_over : (f : ℕ → ℕ) (P Q : ℕ → Type 0) (u : ℕ) (best : Option Bound) → FindsGreatest f (λ o. P o ⊎ (u ≡ o)) best
    → ((o : ℕ) → P o ⊎ (u ≡ o) → Q o) → ((o : ℕ) → Q o → P o ⊎ ((f o ≡ f u) × (u ≤ o))) → FindsGreatest f Q best
tied_over f P Q u None none to from = absurd (none u (inr refl))
tied_over f P Q u (Some best) h to from = (
  record {
    is_one = to best.object h.0.is_one;
    greatest = λ o q. elim (from o q) [
      | inl p ↦ h.0.greatest o (inl p)
      | inr tie ↦ subst (λ z. z ≤ f best.object) (sym tie.0) (h.0.greatest u (inr refl))
    ];
    first = λ o q same. elim (from o q) [
      | inl p ↦ h.0.first o (inl p) same
      | inr tie ↦ let low : best.object ≤ u = h.0.first u (inr refl) (sym tie.0 ∙ same) in let up = tie.1 in omega arith
    ];
  },
  h.1,
)

pub with_least_unseen : (f : ℕ → ℕ) (log : Log) (Y : List ℕ) (best : Option Bound) (u : ℕ) → IsTame log.accesses → All (Contains (seen_objects log.accesses)) Y
    → IsLeastUnseen log.accesses log.count u
    → ((o : ℕ) → (¬ Contains (seen_objects log.accesses) o) → f o ≡ f u)
    → FindsGreatest f (IsOneOutside (seen_objects log.accesses) Y) best
    → FindsGreatest f (IsOutside log Y) (Some (greater best (record { object = u; value = f u })))
with_least_unseen f log Y best u tame seen least same h =
    let S = seen_objects log.accesses in
    let P : ℕ → Type 0 = IsOneOutside S Y in
    let there : IsOutside log Y u = record {
      there = subst (λ s. Contains (object_set log.count s) u) (sym (named_is_seen log.accesses tame)) (least_in_set log.count S u least.room least.below least.unseen least.others);
      outside = λ c. least.unseen (member S Y u seen c);
    } in
    tied_over f P (IsOutside log Y) u (Some (greater best (record { object = u; value = f u })))
    (greatest_step f P (λ o. P o ⊎ (u ≡ o)) best (record { object = u; value = f u }) h refl (λ o q. q) (λ o p. inl p) (inr refl))
    (λ o q. elim q [ inl p ↦ seen_outside log Y o tame p | inr e ↦ subst (IsOutside log Y) e there ])
    (λ o q. elim (outside_cases log Y o tame q) [
      | inl p ↦ inl p
      | inr r ↦ inr (same o r.1, elim (cases_lt o u) [ inl l ↦ absurd (r.1 (least.others o l)) | inr g ↦ g ])
    ])
  where
    member : (S Y : List ℕ) (u : ℕ) → All (Contains S) Y → Contains Y u → Contains S u
    member S Y u all c = subst (Contains S) c.2 (all c.0 u c.1)

-- a set of n objects that has the seen ones and one more leaves place for an unseen one among the smallest ids
pub unseen_there : (n : ℕ) (S O : List ℕ) (o : ℕ) → AllPairs (λ (x : ℕ) (y : ℕ). x ≢ y) S → length O ≡ n → ((x : ℕ) → Contains S x → Contains O x)
    → Contains O o → (¬ Contains S o)
    → (u : ℕ) × Contains (object_set n S) u × (¬ Contains S u)
unseen_there n S O o distinct size within there new =
    let fits : length (o ∷ S) ≤ length O = distinct_fits (o ∷ S) O (cons_distinct o S distinct new)
    (λ x c. elim (contains_cases o S x c) [ inl e ↦ subst (Contains O) e there | inr d ↦ within x d ]) in
    let set = object_set_is n S distinct (omega arith) in
    let sum : length (object_set n S) ≡ length S + length (take (n - length S) (unnamed n S)) = length-append S (take (n - length S) (unnamed n S)) in
    let whole : length (object_set n S) ≡ n = set.sized in
    let some : 0 < length (take (n - length S) (unnamed n S)) = omega arith in
    let c = first_member (take (n - length S) (unnamed n S)) some in (
      c.0,
      Contains-append_right S (take (n - length S) (unnamed n S)) c.0 c.1,
      has_not c.0 S (not-true (has c.0 S) (filter_from (λ z. not (has z S)) (range_with_len 0 n) c.0 (take_within (n - length S) (unnamed n S) c.0 c.1)).1),
    )
  where
    first_member : (xs : List ℕ) → 0 < length xs → (x : ℕ) × Contains xs x
    first_member [] l = absurd (omega arith)
    first_member (x ∷ xs) l = (x, contains_here x xs)

    cons_distinct : (o : ℕ) (S : List ℕ) → AllPairs (λ (x : ℕ) (y : ℕ). x ≢ y) S → (¬ Contains S o) → AllPairs (λ (x : ℕ) (y : ℕ). x ≢ y) (o ∷ S)
    cons_distinct o S distinct new = AllPairs-cons (λ (x : ℕ) (y : ℕ). x ≢ y) o S (all_from_members (λ y. o ≢ y) S (λ y c e. new (subst (Contains S) (sym e) c))) distinct

-- one more id is seen
pub seen_next : (S : List ℕ) (u : ℕ) → ((o : ℕ) → o < u → Contains S o) → Contains S u → (o : ℕ) → o < u + 1 → Contains S o
seen_next S u before here o l = elim (cases_lt o u) [ inl less ↦ before o less | inr more ↦ let same : u ≡ o = omega arith in subst (Contains S) same here ]
