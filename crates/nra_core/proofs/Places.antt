-- Sets of seen objects by their places: what a change at a place is of the objects.
use Rattle.std.proofs.Common.{◌≡◌, ◌≢◌, inl, inr, ℕ, zero, suc, ◌<◌, ◌==◌, Bool, true, false, not, ◌&&◌, ◌||◌, List, [], ◌∷◌, ◌++◌, length, set, Option, Some, None, is_some, nat_eq, position, Contains, refl, sym, ap, subst, ◌∙◌, arith}
use Rattle.std.specs.List.{slice_get, list_any}
use Rattle.std.specs.Cmp.{both_ways}
use Rattle.std.proofs.Math.Bool.{or-false}
use Rattle.std.proofs.lemmas.Bool.{cases_Bool, cases_eq, false≢true, or_cases, or_left, or_right, eq-eqb, ne_eqb, eqb-true}
use Rattle.std.proofs.lemmas.List.{get_or-set_same, get_or-set_other}
use Rattle.std.proofs.lemmas.List.Elements.{Contains-append_cases}
use Rattle.std.proofs.lemmas.List.Folds.{list_any-append}
use Rattle.std.proofs.lemmas.Option.{none-some, same_Some, slice_get_within}
use Rattle.topk_theory.proofs.AgreementLists.{contains_nil, contains_cases, slice_get_contains, one_place}
use Rattle.access_log.proofs.RecordKept.{placed, not_placed, place_of_absent}
use Rattle.containers.specs.Ranks.{rank_at}
use Rattle.containers.specs.declared.slots.Entry.{Entry}
use Rattle.containers.specs.Slots.{HasNoSlot, AreDistinctKeys}
use Rattle.containers.proofs.Getting.{get_last, get_before, get_set_same, get_set_other}
use Rattle.nra_core.specs.Late.{AreApart, with_one, without, exchanged}
use Rattle.nra_core.proofs.SetCounts.{with_itself, with_other, without_itself, without_other}
use Rattle.nra_core.proofs.Members.{in_exchanged}
use Rattle.ranked_list.proofs.OptionLaws.{option_cases}
use Rattle.nra_core.specs.LatePlaces.{at_place}

-- ---- an object has one place
pub place_at : (xs : List ℕ) (p x : ℕ) → AreApart xs → slice_get xs p ≡ Some x → position (nat_eq x) xs ≡ Some p
place_at xs p x apart at =
    elim (option_cases (position (nat_eq x) xs)) [
      | inl none ↦ absurd (not_placed x xs none (slice_get_contains xs p x at))
      | inr some ↦ some.1 ∙ ap (λ q. Some q) (one_place xs some.0 p x apart (placed x some.0 xs some.1) at)
    ]

-- two places are one exactly where their objects are
same_at : (xs : List ℕ) (p q o x : ℕ) → AreApart xs → slice_get xs p ≡ Some o → slice_get xs q ≡ Some x → (p == q) ≡ (o == x)
same_at xs p q o x apart at_p at_q =
    both_ways (p == q) (o == x)
    (λ t. eq-eqb o x (same_Some o x (sym at_p ∙ ap (slice_get xs) (eqb-true p q t) ∙ at_q)))
    (λ t. eq-eqb p q (one_place xs p q x apart (at_p ∙ ap (λ y. Some y) (eqb-true o x t)) at_q))

unseen_other : (xs : List ℕ) (p o x : ℕ) → slice_get xs p ≡ Some o → position (nat_eq x) xs ≡ None → (o == x) ≡ false
unseen_other xs p o x at none = ne_eqb o x (λ e. not_placed x xs none (subst (λ y. Contains xs y) e (slice_get_contains xs p o at)))

-- ---- a change at a place
abbrev pub of_places : List ℕ → (ℕ → Bool) → ℕ → Bool
of_places xs passes object = at_place passes (position (nat_eq object) xs)

at_some : (passes : ℕ → Bool) (found : Option ℕ) (q : ℕ) → found ≡ Some q → at_place passes found ≡ passes q
at_some passes found q e = ap (at_place passes) e

at_none : (passes : ℕ → Bool) (found : Option ℕ) → found ≡ None → at_place passes found ≡ false
at_none passes found e = ap (at_place passes) e

pub same_passes : (xs : List ℕ) (passes then : ℕ → Bool) (x : ℕ) → ((q : ℕ) → then q ≡ passes q) → of_places xs then x ≡ of_places xs passes x
same_passes xs passes then x same =
    elim (option_cases (position (nat_eq x) xs)) [
      | inl none ↦ at_none then (position (nat_eq x) xs) none ∙ sym (at_none passes (position (nat_eq x) xs) none)
      | inr some ↦ at_some then (position (nat_eq x) xs) some.0 some.1 ∙ same some.0 ∙ sym (at_some passes (position (nat_eq x) xs) some.0 some.1)
    ]

pub at_with : (xs : List ℕ) (passes then : ℕ → Bool) (p o x : ℕ) → AreApart xs → slice_get xs p ≡ Some o → ((q : ℕ) → then q ≡ with_one passes p q)
    → of_places xs then x ≡ with_one (of_places xs passes) o x
at_with xs passes then p o x apart at same =
    elim (option_cases (position (nat_eq x) xs)) [
      | inl none ↦ at_none then (position (nat_eq x) xs) none ∙ sym (ap (λ b. b || (o == x)) (at_none passes (position (nat_eq x) xs) none) ∙ unseen_other xs p o x at none)
      | inr some ↦ (
          let q = some.0 in
          at_some then (position (nat_eq x) xs) q some.1 ∙ same q
          ∙ ap (λ b. passes q || b) (same_at xs p q o x apart at (placed x q xs some.1))
          ∙ ap (λ b. b || (o == x)) (sym (at_some passes (position (nat_eq x) xs) q some.1)))
    ]

pub at_without : (xs : List ℕ) (passes then : ℕ → Bool) (p o x : ℕ) → AreApart xs → slice_get xs p ≡ Some o → ((q : ℕ) → then q ≡ without passes p q)
    → of_places xs then x ≡ without (of_places xs passes) o x
at_without xs passes then p o x apart at same =
    elim (option_cases (position (nat_eq x) xs)) [
      | inl none ↦ at_none then (position (nat_eq x) xs) none ∙ sym (ap (λ b. b && not (o == x)) (at_none passes (position (nat_eq x) xs) none))
      | inr some ↦ (
          let q = some.0 in
          at_some then (position (nat_eq x) xs) q some.1 ∙ same q
          ∙ ap (λ b. passes q && not b) (same_at xs p q o x apart at (placed x q xs some.1))
          ∙ ap (λ b. b && not (o == x)) (sym (at_some passes (position (nat_eq x) xs) q some.1)))
    ]

pub at_exchanged : (xs : List ℕ) (passes then : ℕ → Bool) (p q o r x : ℕ) → AreApart xs → slice_get xs p ≡ Some o → slice_get xs q ≡ Some r
    → ((s : ℕ) → then s ≡ exchanged passes p q s) → of_places xs then x ≡ exchanged (of_places xs passes) o r x
at_exchanged xs passes then p q o r x apart at_p at_q same =
    at_with xs (without passes p) then q r x apart at_q same
    ∙ ap (λ b. b || (r == x)) (at_without xs passes (without passes p) p o x apart at_p (λ s. refl))

-- a new object at the end, whose place doesn't pass
absent_end : (xs : List ℕ) (o x : ℕ) → (¬ Contains xs x) → o ≢ x → ¬ Contains (xs ++ o ∷ []) x
absent_end xs o x none apart = λ c. elim (Contains-append_cases xs (o ∷ []) x c) [
  | inl before ↦ none before
  | inr last ↦ elim (contains_cases o [] x last) [ inl e ↦ apart e | inr n ↦ contains_nil x n ]
]

pub at_grown : (xs : List ℕ) (passes : ℕ → Bool) (o x : ℕ) → AreApart (xs ++ o ∷ []) → passes (length xs) ≡ false
    → of_places (xs ++ o ∷ []) passes x ≡ of_places xs passes x
at_grown xs passes o x apart fails =
    let now = xs ++ o ∷ [] in
    elim (option_cases (position (nat_eq x) xs)) [
      | inr some ↦ (
          let q = some.0 in
          let at : slice_get xs q ≡ Some x = placed x q xs some.1 in
          let within = slice_get_within xs q x at in
          let at_now : slice_get now q ≡ Some x = get_before xs o q (λ e. let h : ⊥ = omega arith in h) ∙ at in
          at_some passes (position (nat_eq x) now) q (place_at now q x apart at_now) ∙ sym (at_some passes (position (nat_eq x) xs) q some.1))
      | inl none ↦ (
          let before = at_none passes (position (nat_eq x) xs) none in
          elim (cases_eq o x) [
            | inl e ↦ at_some passes (position (nat_eq x) now) (length xs) (place_at now (length xs) x apart (get_last xs o ∙ ap (λ y. Some y) e)) ∙ fails ∙ sym before
            | inr n ↦ at_none passes (position (nat_eq x) now) (place_of_absent x now (absent_end xs o x (not_placed x xs none) n)) ∙ sym before
          ])
    ]

-- ---- slots
abbrev pub has_place : List Entry → ℕ → Bool
has_place entries place = list_any (λ (entry : Entry). entry.key == place) entries

pub has_from : (entries : List Entry) (slot : ℕ) (entry : Entry) → slice_get entries slot ≡ Some entry → has_place entries entry.key ≡ true
has_from [] slot entry at = absurd (none-some entry at)
has_from (first ∷ rest) zero entry at = or_left (first.key == entry.key) (has_place rest entry.key) (eq-eqb first.key entry.key (ap (λ (e : Entry). e.key) (same_Some first entry at)))
has_from (first ∷ rest) (suc slot) entry at = or_right (first.key == entry.key) (has_place rest entry.key) (has_from rest slot entry at)

pub has_slot : (entries : List Entry) (place : ℕ) → has_place entries place ≡ true
    → (slot : ℕ) × (entry : Entry) × (slice_get entries slot ≡ Some entry) × (entry.key ≡ place)
has_slot [] place t = absurd (false≢true t)
has_slot (first ∷ rest) place t =
    elim (or_cases (first.key == place) (has_place rest place) t) [
      | inl here ↦ (zero, first, refl, eqb-true first.key place here)
      | inr there ↦ (let r = has_slot rest place there in (suc r.0, r.1, r.2, r.3))
    ]

pub none_has : (entries : List Entry) (place : ℕ) → HasNoSlot entries place → has_place entries place ≡ false
none_has entries place none =
    elim (cases_Bool (has_place entries place)) [
      | inl t ↦ absurd (let r = has_slot entries place t in none r.0 r.1 r.2 r.3)
      | inr f ↦ f
    ]

pub has_added : (entries : List Entry) (new : Entry) (place : ℕ) → has_place (entries ++ new ∷ []) place ≡ with_one (has_place entries) new.key place
has_added entries new place =
    list_any-append (λ (entry : Entry). entry.key == place) entries (new ∷ []) ∙ ap (λ b. has_place entries place || b) (or-false (new.key == place))

pub has_renewed : (entries : List Entry) (slot : ℕ) (old new : Entry) (place : ℕ) → slice_get entries slot ≡ Some old → new.key ≡ old.key
    → has_place (set entries slot new) place ≡ has_place entries place
has_renewed entries slot old new place at same =
    let lt = slice_get_within entries slot old at in
    both_ways (has_place (set entries slot new) place) (has_place entries place)
    (λ t. let r = has_slot (set entries slot new) place t in
    elim (cases_eq r.0 slot) [
      | inl e ↦ (
          let is : new ≡ r.1 = same_Some new r.1 (sym (get_set_same entries slot new lt) ∙ ap (slice_get (set entries slot new)) (sym e) ∙ r.2) in
          subst (λ q. has_place entries q ≡ true) (sym same ∙ ap (λ (x : Entry). x.key) is ∙ r.3) (has_from entries slot old at))
      | inr n ↦ subst (λ q. has_place entries q ≡ true) r.3 (has_from entries r.0 r.1 (sym (get_set_other entries slot r.0 new n) ∙ r.2))
    ])
    (λ t. let r = has_slot entries place t in
    elim (cases_eq r.0 slot) [
      | inl e ↦ (
          let is : old ≡ r.1 = same_Some old r.1 (sym at ∙ ap (slice_get entries) (sym e) ∙ r.2) in
          subst (λ q. has_place (set entries slot new) q ≡ true) (same ∙ ap (λ (x : Entry). x.key) is ∙ r.3) (has_from (set entries slot new) slot new (get_set_same entries slot new lt)))
      | inr n ↦ subst (λ q. has_place (set entries slot new) q ≡ true) r.3 (has_from (set entries slot new) r.0 r.1 (get_set_other entries slot r.0 new n ∙ r.2))
    ])

-- the other slots have other places
pub has_replaced : (entries : List Entry) (slot : ℕ) (old new : Entry) (place : ℕ) → AreDistinctKeys entries → slice_get entries slot ≡ Some old
    → HasNoSlot entries new.key → has_place (set entries slot new) place ≡ exchanged (has_place entries) old.key new.key place
has_replaced entries slot old new place distinct at absent =
    let lt = slice_get_within entries slot old at in
    let now = set entries slot new in
    both_ways (has_place now place) (exchanged (has_place entries) old.key new.key place)
    (λ t. let r = has_slot now place t in
    elim (cases_eq r.0 slot) [
      | inl e ↦ (
          let is : new ≡ r.1 = same_Some new r.1 (sym (get_set_same entries slot new lt) ∙ ap (slice_get now) (sym e) ∙ r.2) in
          subst (λ q. exchanged (has_place entries) old.key new.key q ≡ true) (ap (λ (x : Entry). x.key) is ∙ r.3) (with_itself (without (has_place entries) old.key) new.key))
      | inr n ↦ (
          let before : slice_get entries r.0 ≡ Some r.1 = sym (get_set_other entries slot r.0 new n) ∙ r.2 in
          let apart : old.key ≢ r.1.key = λ s. n (distinct r.0 slot r.1 old before at (sym s)) in
          let apart_new : new.key ≢ r.1.key = λ s. absent r.0 r.1 before (sym s) in
          subst (λ q. exchanged (has_place entries) old.key new.key q ≡ true) r.3
          (with_other (without (has_place entries) old.key) new.key r.1.key apart_new ∙ without_other (has_place entries) old.key r.1.key apart ∙ has_from entries r.0 r.1 before))
    ])
    (λ t. elim (in_exchanged (has_place entries) old.key new.key place t) [
      | inl e ↦ subst (λ q. has_place now q ≡ true) e (has_from now slot new (get_set_same entries slot new lt))
      | inr was ↦ (
          let r = has_slot entries place was.0 in
          let n : r.0 ≢ slot = λ e. was.1 (ap (λ (x : Entry). x.key) (same_Some old r.1 (sym at ∙ ap (slice_get entries) (sym e) ∙ r.2)) ∙ r.3) in
          subst (λ q. has_place now q ≡ true) r.3 (has_from now r.0 r.1 (get_set_other entries slot r.0 new n ∙ r.2)))
    ])

-- ---- kept highs
abbrev pub has_high : List (Option ℕ) → ℕ → Bool
has_high highs place = is_some (rank_at highs place)

pub high_put : (highs : List (Option ℕ)) (p high q : ℕ) → p < length highs → has_high (set highs p (Some high)) q ≡ with_one (has_high highs) p q
high_put highs p high q lt =
    elim (cases_eq p q) [
      | inl e ↦ subst (λ r. has_high (set highs p (Some high)) r ≡ with_one (has_high highs) p r) e
          (ap (λ (o : Option ℕ). is_some o) (get_or-set_same highs p (Some high) None lt) ∙ sym (with_itself (has_high highs) p))
      | inr n ↦ ap (λ (o : Option ℕ). is_some o) (get_or-set_other highs p q (Some high) None (λ e. n (sym e))) ∙ sym (with_other (has_high highs) p q n)
    ]

pub high_removed : (highs : List (Option ℕ)) (p q : ℕ) → p < length highs → has_high (set highs p None) q ≡ without (has_high highs) p q
high_removed highs p q lt =
    elim (cases_eq p q) [
      | inl e ↦ subst (λ r. has_high (set highs p None) r ≡ without (has_high highs) p r) e
          (ap (λ (o : Option ℕ). is_some o) (get_or-set_same highs p None None lt) ∙ sym (without_itself (has_high highs) p))
      | inr n ↦ ap (λ (o : Option ℕ). is_some o) (get_or-set_other highs p q None None (λ e. n (sym e))) ∙ sym (without_other (has_high highs) p q n)
    ]
