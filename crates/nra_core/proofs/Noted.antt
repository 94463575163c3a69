-- What is kept is kept after one more access.
use Rattle.std.proofs.Common.{◌≡◌, ◌≢◌, ◌⊎◌, inl, inr, ℕ, ◌+◌, ◌<◌, ◌≤◌, ◌==◌, ◌||◌, min, Bool, true, false, not, ◌&&◌, List, [], ◌∷◌, ◌++◌, length, get_or, set, Option, Some, None, is_some, nat_eq, position, Contains, refl, sym, ap, subst, ◌∙◌, arith, length-append, append-nil}
use Rattle.std.specs.List.{slice_get}
use Rattle.std.proofs.lemmas.Bool.{cases_Bool, cases_eq, false≢true}
use Rattle.std.proofs.lemmas.List.{length-set, get_or-set_same, get_or-set_other}
use Rattle.std.proofs.lemmas.Option.{none-some, same_Some, slice_get_within, slice_get-get_or}
use Rattle.topk_theory.specs.declared.access.Access.{Access}
use Rattle.topk_theory.specs.declared.access.Access.TheVariants.{Sorted, Random}
use Rattle.topk_theory.specs.Transcript.{object_of, seen_objects}
use Rattle.topk_theory.specs.Bounds.{low, high}
use Rattle.topk_theory.proofs.AgreementLists.{contains_nil, contains_cases, slice_get_contains, get_front, one_place}
use Rattle.topk_theory.proofs.AgreementNames.{has, has_contains, has_not}
use Rattle.topk_theory.proofs.Agreement.{seen_distinct, seen_objects_old, seen_objects_new, seen_objects_random}
use Rattle.std.proofs.lemmas.List.Elements.{Contains-append_cases}
use Rattle.access_log.proofs.RecordKept.{placed}
use Rattle.containers.specs.Ranks.{rank_at}
use Rattle.containers.specs.declared.slots.Entry.{Entry}
use Rattle.containers.specs.Slots.{Slots, HasNoSlot, IsLeast, AreDistinctKeys}
use Rattle.containers.proofs.Getting.{get_last, get_before, get_set_same, get_set_other}
use Rattle.nra_core.specs.Late.{AreApart, AreNextBounds, KeepsCandidates, with_one, exchanged}
use Rattle.nra_core.proofs.Candidates.{NamesOutside, keeps_of_member, keeps_of_few, keeps_of_outside, keeps_of_known, keeps_of_exchange, keeps_same}
use Rattle.nra_core.proofs.Members.{all_in}
use Rattle.ranked_list.proofs.OptionLaws.{option_cases}
use Rattle.nra_core.specs.LatePlaces.{at_place, is_first, is_candidate, AreSeen, IsLate}
use Rattle.nra_core.proofs.Places.{place_at, of_places, at_with, at_exchanged, at_grown, has_place, has_from, has_slot, has_added, has_renewed, has_replaced, none_has, has_high, high_put, high_removed, same_passes}

-- ---- what is seen after one more access
abbrev pub IsOld : List Access → Access → Type 0
IsOld A a = Contains (seen_objects A) (object_of a) × (seen_objects (A ++ a ∷ []) ≡ seen_objects A)

abbrev pub IsNew : List Access → Access → Type 0
IsNew A a = (¬ Contains (seen_objects A) (object_of a)) × (seen_objects (A ++ a ∷ []) ≡ seen_objects A ++ object_of a ∷ [])

pub old_or_new : (A : List Access) (a : Access) → Contains (seen_objects (A ++ a ∷ [])) (object_of a) → IsOld A a ⊎ IsNew A a
old_or_new A (Sorted list object grade) c =
    elim (cases_Bool (has object (seen_objects A))) [
      | inl t ↦ (let there = has_contains object (seen_objects A) t in inl (there, seen_objects_old A list object grade there))
      | inr f ↦ (let none = has_not object (seen_objects A) f in inr (none, seen_objects_new A list object grade none))
    ]
old_or_new A (Random list object grade) c =
    let same : seen_objects (A ++ Random list object grade ∷ []) ≡ seen_objects A = seen_objects_random A list object grade in
    inl (subst (λ os. Contains os object) same c, same)

-- the object at a place of those seen before
pub before_at : (A : List Access) (a : Access) (place x : ℕ) → IsOld A a ⊎ IsNew A a → place < length (seen_objects A)
    → slice_get (seen_objects (A ++ a ∷ [])) place ≡ Some x → slice_get (seen_objects A) place ≡ Some x
before_at A a place x (inl old) lt at = ap (λ os. slice_get os place) (sym old.1) ∙ at
before_at A a place x (inr new) lt at = sym (get_front (seen_objects A) (object_of a ∷ []) place lt) ∙ ap (λ os. slice_get os place) (sym new.1) ∙ at

pub no_fewer : (A : List Access) (a : Access) → IsOld A a ⊎ IsNew A a → length (seen_objects A) ≤ length (seen_objects (A ++ a ∷ []))
no_fewer A a (inl old) = let e : length (seen_objects (A ++ a ∷ [])) ≡ length (seen_objects A) = ap length old.1 in omega arith
no_fewer A a (inr new) =
    let e : length (seen_objects (A ++ a ∷ [])) ≡ length (seen_objects A ++ object_of a ∷ []) = ap length new.1 in
    let size : length (seen_objects A ++ object_of a ∷ []) ≡ length (seen_objects A) + 1 = length-append (seen_objects A) (object_of a ∷ []) in
    omega arith

-- a set of places that passes none behind those seen is of the same objects
pub same_places : (A : List Access) (a : Access) (passes : ℕ → Bool) (x : ℕ) → IsOld A a ⊎ IsNew A a → passes (length (seen_objects A)) ≡ false
    → of_places (seen_objects (A ++ a ∷ [])) passes x ≡ of_places (seen_objects A) passes x
same_places A a passes x (inl old) fails = ap (λ os. of_places os passes x) old.1
same_places A a passes x (inr new) fails =
    ap (λ os. of_places os passes x) new.1
    ∙ at_grown (seen_objects A) passes (object_of a) x (subst (λ os. AreApart os) new.1 (seen_distinct (A ++ a ∷ []))) fails

seen_fails : (A : List Access) (entries : List Entry) → AreSeen A entries → has_place entries (length (seen_objects A)) ≡ false
seen_fails A entries seen = none_has entries (length (seen_objects A)) (λ slot entry at same. let lt = seen slot entry at in let h : ⊥ = omega arith in h)

high_fails : (A : List Access) (highs : List (Option ℕ)) → ((place kept : ℕ) → rank_at highs place ≡ Some kept → place < length (seen_objects A))
    → has_high highs (length (seen_objects A)) ≡ false
high_fails A highs waiting = go (rank_at highs (length (seen_objects A))) refl
  where
    go : (found : Option ℕ) → rank_at highs (length (seen_objects A)) ≡ found → has_high highs (length (seen_objects A)) ≡ false
    go None e = ap (λ (o : Option ℕ). is_some o) e
    go (Some kept) e = absurd (let lt = waiting (length (seen_objects A)) kept e in let h : ⊥ = omega arith in h)

-- ---- kept lows and kept highs
-- of the slots that the access doesn't name
pub lows_stay : (V : List ℕ → ℕ) (k m : ℕ) (A : List Access) (a : Access) (first : Slots) (candidates : List (Option ℕ)) (slot x : ℕ) (entry : Entry)
    → AreNextBounds (low V m A) (high V m A) (low V m (A ++ a ∷ [])) (high V m (A ++ a ∷ [])) (object_of a) → IsOld A a ⊎ IsNew A a
    → IsLate V k m A first candidates → slice_get first.entries slot ≡ Some entry → slice_get (seen_objects (A ++ a ∷ [])) entry.key ≡ Some x
    → object_of a ≢ x → entry.rank ≡ low V m (A ++ a ∷ []) x
lows_stay V k m A a first candidates slot x entry bounds seen late at there other =
    late.lows slot x entry at (before_at A a entry.key x seen (late.places slot entry at) there) ∙ sym (bounds.others x other)

pub highs_stay : (V : List ℕ → ℕ) (k m : ℕ) (A : List Access) (a : Access) (first : Slots) (candidates : List (Option ℕ)) (place x kept : ℕ)
    → AreNextBounds (low V m A) (high V m A) (low V m (A ++ a ∷ [])) (high V m (A ++ a ∷ [])) (object_of a) → IsOld A a ⊎ IsNew A a
    → IsLate V k m A first candidates → rank_at candidates place ≡ Some kept → slice_get (seen_objects (A ++ a ∷ [])) place ≡ Some x
    → high V m (A ++ a ∷ []) x ≤ kept
highs_stay V k m A a first candidates place x kept bounds seen late at there =
    let before = late.highs place x kept at (before_at A a place x seen (late.waiting place kept at) there) in
    let falls = bounds.falls x in
    omega arith

-- ---- one of the first is named
pub noted_member : (V : List ℕ → ℕ) (k m : ℕ) (A : List Access) (a : Access) (first : Slots) (candidates : List (Option ℕ)) (slot place : ℕ) (old : Entry)
    → AreNextBounds (low V m A) (high V m A) (low V m (A ++ a ∷ [])) (high V m (A ++ a ∷ [])) (object_of a)
    → Contains (seen_objects (A ++ a ∷ [])) (object_of a) → IsLate V k m A first candidates → slice_get first.entries slot ≡ Some old
    → old.key ≡ place → slice_get (seen_objects (A ++ a ∷ [])) place ≡ Some (object_of a)
    → AreDistinctKeys (set first.entries slot (record { key = old.key; rank = low V m (A ++ a ∷ []) (object_of a) }))
    → IsLate V k m (A ++ a ∷ []) (record first { entries = set first.entries slot (record { key = old.key; rank = low V m (A ++ a ∷ []) (object_of a) }) }) candidates
noted_member V k m A a first candidates slot place old bounds c late at is_place there distinct =
    let B = A ++ a ∷ [] in
    let o = object_of a in
    let seen = seen_objects A in
    let new : Entry = record { key = old.key; rank = low V m B o } in
    let entries = set first.entries slot new in
    let lt = slice_get_within first.entries slot old at in
    let either = old_or_new A a c in
    let at_place_o : slice_get seen old.key ≡ Some o = before_at A a old.key o either (late.places slot old at) (ap (slice_get (seen_objects B)) is_place ∙ there) in
    let grown : seen_objects B ≡ seen = elim either [
      | inl was ↦ was.1
      | inr new ↦ absurd (new.0 (slice_get_contains seen old.key o at_place_o))
    ] in
    let size : length (seen_objects B) ≡ length seen = ap length grown in
    let entries_size : length entries ≡ length first.entries = length-set first.entries slot new in
    let member : is_first A first.entries o ≡ true = ap (at_place (has_place first.entries)) (place_at seen old.key o (seen_distinct A) at_place_o) ∙ has_from first.entries slot old at in
    let keeps : KeepsCandidates k (low V m B) (high V m B) seen (is_first A first.entries) (is_candidate A candidates) = keeps_of_member k (low V m A) (high V m A) (low V m B) (high V m B) seen (is_first A first.entries) (is_candidate A candidates) o bounds late.keeps member in
    let before : (s : ℕ) (entry : Entry) → s ≢ slot → slice_get entries s ≡ Some entry → slice_get first.entries s ≡ Some entry = λ s entry n e. sym (get_set_other first.entries slot s new n) ∙ e in
    record {
      asked = late.asked;
      most = late.most;
      room = late.room;
      fits = (let f = late.fits in omega arith);
      full = entries_size ∙ late.full ∙ ap (λ n. min k n) (sym size);
      keeps = subst (λ os. KeepsCandidates k (low V m B) (high V m B) os (is_first B entries) (is_candidate B candidates)) (sym grown)
          (keeps_same k (low V m B) (high V m B) seen (is_first A first.entries) (is_first B entries) (is_candidate A candidates) (is_candidate B candidates)
          (λ x. ap (λ os. of_places os (has_place entries) x) grown ∙ same_passes seen (has_place first.entries) (has_place entries) x (λ q. has_renewed first.entries slot old new q at refl))
          (λ x. ap (λ os. of_places os (has_high candidates) x) grown) keeps);
      distinct = distinct;
      places = λ s entry e. elim (cases_eq s slot) [
        | inl same ↦ (
            let is : new ≡ entry = same_Some new entry (sym (get_set_same first.entries slot new lt) ∙ ap (slice_get entries) (sym same) ∙ e) in
            let key : old.key ≡ entry.key = ap (λ (x : Entry). x.key) is in
            let l = late.places slot old at in
            omega arith)
        | inr n ↦ (let l = late.places s entry (before s entry n e) in omega arith)
      ];
      lows = λ s x entry e there_x. elim (cases_eq s slot) [
        | inl same ↦ (
            let is : new ≡ entry = same_Some new entry (sym (get_set_same first.entries slot new lt) ∙ ap (slice_get entries) (sym same) ∙ e) in
            let key : old.key ≡ entry.key = ap (λ (x : Entry). x.key) is in
            let object : o ≡ x = same_Some o x (sym at_place_o ∙ ap (slice_get seen) key ∙ ap (λ os. slice_get os entry.key) (sym grown) ∙ there_x) in
            sym (ap (λ (x : Entry). x.rank) is) ∙ ap (low V m B) object)
        | inr n ↦ (
            let was = before s entry n e in
            let apart : o ≢ x = λ same. n (late.distinct s slot entry old was at (one_place seen entry.key old.key x (seen_distinct A) (sym (ap (λ os. slice_get os entry.key) grown) ∙ there_x) (at_place_o ∙ ap (λ y. Some y) same))) in
            lows_stay V k m A a first candidates s x entry bounds either late was there_x apart)
      ];
      waiting = λ p kept e. (let l = late.waiting p kept e in omega arith);
      highs = λ p x kept e there_x. highs_stay V k m A a first candidates p x kept bounds either late e there_x;
    }

-- ---- an object outside the first is named
-- it has no slot, so it isn't among the first
not_first : (A : List Access) (a : Access) (entries : List Entry) (place : ℕ) → IsOld A a ⊎ IsNew A a → AreSeen A entries
    → slice_get (seen_objects (A ++ a ∷ [])) place ≡ Some (object_of a) → HasNoSlot entries place → is_first A entries (object_of a) ≡ false
not_first A a entries place either seen there none =
    sym (same_places A a (has_place entries) (object_of a) either (seen_fails A entries seen))
    ∙ ap (at_place (has_place entries)) (place_at (seen_objects (A ++ a ∷ [])) place (object_of a) (seen_distinct (A ++ a ∷ [])) there)
    ∙ none_has entries place none

-- the first and the candidates of before, told by the places of now
first_now : (A : List Access) (a : Access) (entries : List Entry) (x : ℕ) → IsOld A a ⊎ IsNew A a → AreSeen A entries
    → is_first (A ++ a ∷ []) entries x ≡ is_first A entries x
first_now A a entries x either seen = same_places A a (has_place entries) x either (seen_fails A entries seen)

candidates_now : (V : List ℕ → ℕ) (k m : ℕ) (A : List Access) (a : Access) (first : Slots) (candidates : List (Option ℕ)) (x : ℕ)
    → IsOld A a ⊎ IsNew A a → IsLate V k m A first candidates → is_candidate (A ++ a ∷ []) candidates x ≡ is_candidate A candidates x
candidates_now V k m A a first candidates x either late = same_places A a (has_high candidates) x either (high_fails A candidates late.waiting)

-- a new place with the present low of its object
lows_added : (V : List ℕ → ℕ) (k m : ℕ) (A : List Access) (a : Access) (first : Slots) (candidates : List (Option ℕ)) (place : ℕ)
    → AreNextBounds (low V m A) (high V m A) (low V m (A ++ a ∷ [])) (high V m (A ++ a ∷ [])) (object_of a) → IsOld A a ⊎ IsNew A a
    → IsLate V k m A first candidates → HasNoSlot first.entries place → slice_get (seen_objects (A ++ a ∷ [])) place ≡ Some (object_of a)
    → (slot x : ℕ) (entry : Entry) → slice_get first.entries slot ≡ Some entry → slice_get (seen_objects (A ++ a ∷ [])) entry.key ≡ Some x → entry.rank ≡ low V m (A ++ a ∷ []) x
lows_added V k m A a first candidates place bounds either late none there slot x entry at there_x =
    let B = A ++ a ∷ [] in
    let apart : object_of a ≢ x = λ same. none slot entry at (one_place (seen_objects B) entry.key place x (seen_distinct B) there_x (there ∙ ap (λ y. Some y) same)) in
    lows_stay V k m A a first candidates slot x entry bounds either late at there_x apart

-- fewer than k are seen: it is one of the first
pub noted_few : (V : List ℕ → ℕ) (k m : ℕ) (A : List Access) (a : Access) (first : Slots) (candidates : List (Option ℕ)) (place : ℕ)
    → AreNextBounds (low V m A) (high V m A) (low V m (A ++ a ∷ [])) (high V m (A ++ a ∷ [])) (object_of a)
    → Contains (seen_objects (A ++ a ∷ [])) (object_of a) → length (seen_objects (A ++ a ∷ [])) ≤ first.room → IsLate V k m A first candidates
    → length first.entries < k → HasNoSlot first.entries place → slice_get (seen_objects (A ++ a ∷ [])) place ≡ Some (object_of a)
    → AreDistinctKeys (first.entries ++ record { key = place; rank = low V m (A ++ a ∷ []) (object_of a) } ∷ [])
    → IsLate V k m (A ++ a ∷ []) (record first { entries = first.entries ++ record { key = place; rank = low V m (A ++ a ∷ []) (object_of a) } ∷ [] }) candidates
noted_few V k m A a first candidates place bounds c fits late few none there distinct =
    let B = A ++ a ∷ [] in
    let o = object_of a in
    let seen = seen_objects A in
    let new : Entry = record { key = place; rank = low V m B o } in
    let entries = first.entries ++ new ∷ [] in
    let either = old_or_new A a c in
    let full = late.full in
    let short : length seen < k = omega arith in
    let outside : is_first A first.entries o ≡ false = not_first A a first.entries place either late.places there none in
    let grown : seen_objects B ≡ seen ++ o ∷ [] = elim either [
      | inl old ↦ absurd (false≢true (sym outside ∙ all_in k (low V m A) seen (is_first A first.entries) o (omega arith) late.keeps.first old.0))
      | inr fresh ↦ fresh.1
    ] in
    let more = no_fewer A a either in
    let size : length (seen_objects B) ≡ length (seen ++ o ∷ []) = ap length grown in
    let one_more : length (seen ++ o ∷ []) ≡ length seen + 1 = length-append seen (o ∷ []) in
    let entries_size : length entries ≡ length first.entries + 1 = length-append first.entries (new ∷ []) in
    let place_within = slice_get_within (seen_objects B) place o there in
    let keeps : KeepsCandidates k (low V m B) (high V m B) (seen ++ o ∷ []) (with_one (is_first A first.entries) o) (is_candidate A candidates) = keeps_of_few k (low V m A) (high V m A) (low V m B) (high V m B) seen (is_first A first.entries) (is_candidate A candidates) o bounds short late.keeps in
    record {
      asked = late.asked;
      most = late.most;
      room = late.room;
      fits = fits;
      full = (let e : length entries ≡ min k (length (seen_objects B)) = omega arith in e);
      keeps = subst (λ os. KeepsCandidates k (low V m B) (high V m B) os (is_first B entries) (is_candidate B candidates)) (sym grown)
          (keeps_same k (low V m B) (high V m B) (seen ++ o ∷ []) (with_one (is_first A first.entries) o) (is_first B entries) (is_candidate A candidates) (is_candidate B candidates)
          (λ x. at_with (seen_objects B) (has_place first.entries) (has_place entries) place o x (seen_distinct B) there (λ q. has_added first.entries new q) ∙ ap (λ b. b || (o == x)) (first_now A a first.entries x either late.places))
          (λ x. candidates_now V k m A a first candidates x either late) keeps);
      distinct = distinct;
      places = λ s entry e. elim (cases_eq s (length first.entries)) [
        | inl last ↦ (
            let is : new ≡ entry = same_Some new entry (sym (get_last first.entries new) ∙ ap (slice_get entries) (sym last) ∙ e) in
            let key : place ≡ entry.key = ap (λ (x : Entry). x.key) is in
            omega arith)
        | inr n ↦ (let l = late.places s entry (sym (get_before first.entries new s n) ∙ e) in omega arith)
      ];
      lows = λ s x entry e there_x. elim (cases_eq s (length first.entries)) [
        | inl last ↦ (
            let is : new ≡ entry = same_Some new entry (sym (get_last first.entries new) ∙ ap (slice_get entries) (sym last) ∙ e) in
            let object : o ≡ x = same_Some o x (sym there ∙ ap (λ (y : Entry). slice_get (seen_objects B) y.key) is ∙ there_x) in
            sym (ap (λ (y : Entry). y.rank) is) ∙ ap (low V m B) object)
        | inr n ↦ lows_added V k m A a first candidates place bounds either late none there s x entry (sym (get_before first.entries new s n) ∙ e) there_x
      ];
      waiting = λ p kept e. (let l = late.waiting p kept e in omega arith);
      highs = λ p x kept e there_x. highs_stay V k m A a first candidates p x kept bounds either late e there_x;
    }

-- ---- k are seen
-- what is seen then is what was seen, and the object where it is new
record Grown (A : List Access) (a : Access) : Type 0 where
  more : List ℕ
  grown : seen_objects (A ++ a ∷ []) ≡ seen_objects A ++ more
  only : (other : ℕ) → Contains more other → object_of a ≡ other
  others : (other : ℕ) → Contains (seen_objects A ++ more) other → object_of a ≢ other → Contains (seen_objects A) other

grown_by : (A : List Access) (a : Access) → IsOld A a ⊎ IsNew A a → Grown A a
grown_by A a (inl old) = record {
  more = [];
  grown = old.1 ∙ sym (append-nil (seen_objects A));
  only = λ other c. absurd (contains_nil other c);
  others = λ other c n. subst (λ os. Contains os other) (append-nil (seen_objects A)) c;
}
grown_by A a (inr new) = record {
  more = object_of a ∷ [];
  grown = new.1;
  only = λ other c. elim (contains_cases (object_of a) [] other c) [ inl e ↦ e | inr none ↦ absurd (contains_nil other none) ];
  others = λ other c n. elim (Contains-append_cases (seen_objects A) (object_of a ∷ []) other c) [
    | inl before ↦ before
    | inr last ↦ elim (contains_cases (object_of a) [] other last) [ inl e ↦ absurd (n e) | inr none ↦ absurd (contains_nil other none) ]
  ];
}

-- whoever is among the first has a slot
pub slot_of_first : (A : List Access) (entries : List Entry) (x : ℕ) → is_first A entries x ≡ true
    → (slot : ℕ) × (entry : Entry) × (slice_get entries slot ≡ Some entry) × (slice_get (seen_objects A) entry.key ≡ Some x)
slot_of_first A entries x t =
    elim (option_cases (position (nat_eq x) (seen_objects A))) [
      | inl none ↦ absurd (false≢true (sym (ap (at_place (has_place entries)) none) ∙ t))
      | inr some ↦ (
          let r = has_slot entries some.0 (sym (ap (at_place (has_place entries)) some.1) ∙ t) in
          (r.0, r.1, r.2, ap (slice_get (seen_objects A)) r.3 ∙ placed x some.0 (seen_objects A) some.1))
    ]

-- the least rank is the least low of the first
pub least_of_first : (V : List ℕ → ℕ) (k m : ℕ) (A : List Access) (first : Slots) (candidates : List (Option ℕ)) (slot : ℕ)
    → IsLate V k m A first candidates → (least : IsLeast first.entries slot) → (inside : ℕ) → is_first A first.entries inside ≡ true
    → least.entry.rank ≤ low V m A inside
least_of_first V k m A first candidates slot late least inside t =
    let r = slot_of_first A first.entries inside t in
    let upto = least.least r.0 r.1 r.2 in
    let is = late.lows r.0 inside r.1 r.2 r.3 in
    omega arith

-- its low isn't above the least: it is a candidate
pub noted_outside : (V : List ℕ → ℕ) (k m : ℕ) (A : List Access) (a : Access) (first : Slots) (candidates : List (Option ℕ)) (place slot : ℕ)
    → AreNextBounds (low V m A) (high V m A) (low V m (A ++ a ∷ [])) (high V m (A ++ a ∷ [])) (object_of a)
    → Contains (seen_objects (A ++ a ∷ [])) (object_of a) → length (seen_objects (A ++ a ∷ [])) ≤ first.room → IsLate V k m A first candidates
    → k ≤ length first.entries → HasNoSlot first.entries place → slice_get (seen_objects (A ++ a ∷ [])) place ≡ Some (object_of a)
    → (least : IsLeast first.entries slot) → low V m (A ++ a ∷ []) (object_of a) ≤ least.entry.rank
    → IsLate V k m (A ++ a ∷ []) first (set candidates place (Some (high V m (A ++ a ∷ []) (object_of a))))
noted_outside V k m A a first candidates place slot bounds c fits late many none there least below =
    let B = A ++ a ∷ [] in
    let o = object_of a in
    let seen = seen_objects A in
    let now = set candidates place (Some (high V m B o)) in
    let either = old_or_new A a c in
    let full = late.full in
    let enough : k ≤ length seen = omega arith in
    let outside : is_first A first.entries o ≡ false = not_first A a first.entries place either late.places there none in
    let g = grown_by A a either in
    let place_within = slice_get_within (seen_objects B) place o there in
    let room : place < length candidates = (let r = late.room in omega arith) in
    let now_size : length now ≡ length candidates = length-set candidates place (Some (high V m B o)) in
    let no_less = no_fewer A a either in
    let names : NamesOutside k seen g.more (is_first A first.entries) o = record {
      enough = enough;
      apart = subst (λ os. AreApart os) g.grown (seen_distinct B);
      outside = outside;
      there = subst (λ os. Contains os o) g.grown c;
      only = g.only;
      others = g.others;
    } in
    let keeps : KeepsCandidates k (low V m B) (high V m B) (seen ++ g.more) (is_first A first.entries) (with_one (is_candidate A candidates) o) = keeps_of_outside k (low V m A) (high V m A) (low V m B) (high V m B) seen g.more (is_first A first.entries) (is_candidate A candidates) o bounds names late.keeps
    (λ inside t. let from = least_of_first V k m A first candidates slot late least inside t in omega arith) in
    record {
      asked = late.asked;
      most = late.most;
      room = now_size ∙ late.room;
      fits = fits;
      full = (let e : length first.entries ≡ min k (length (seen_objects B)) = omega arith in e);
      keeps = subst (λ os. KeepsCandidates k (low V m B) (high V m B) os (is_first B first.entries) (is_candidate B now)) (sym g.grown)
          (keeps_same k (low V m B) (high V m B) (seen ++ g.more) (is_first A first.entries) (is_first B first.entries) (with_one (is_candidate A candidates) o) (is_candidate B now)
          (λ x. first_now A a first.entries x either late.places)
          (λ x. at_with (seen_objects B) (has_high candidates) (has_high now) place o x (seen_distinct B) there (λ q. high_put candidates place (high V m B o) q room) ∙ ap (λ b. b || (o == x)) (candidates_now V k m A a first candidates x either late)) keeps);
      distinct = late.distinct;
      places = λ s entry e. (let l = late.places s entry e in omega arith);
      lows = λ s x entry e there_x. lows_added V k m A a first candidates place bounds either late none there s x entry e there_x;
      waiting = λ p kept e. elim (cases_eq p place) [
        | inl same ↦ omega arith
        | inr n ↦ (let l = late.waiting p kept (sym (get_or-set_other candidates place p (Some (high V m B o)) None n) ∙ e) in omega arith)
      ];
      highs = λ p x kept e there_x. elim (cases_eq p place) [
        | inl same ↦ (
            let object : o ≡ x = same_Some o x (sym there ∙ ap (slice_get (seen_objects B)) (sym same) ∙ there_x) in
            let is : high V m B o ≡ kept = same_Some (high V m B o) kept (sym (get_or-set_same candidates place (Some (high V m B o)) None room) ∙ ap (λ q. rank_at now q) (sym same) ∙ e) in
            let value : high V m B o ≡ high V m B x = ap (high V m B) object in
            omega arith)
        | inr n ↦ highs_stay V k m A a first candidates p x kept bounds either late (sym (get_or-set_other candidates place p (Some (high V m B o)) None n) ∙ e) there_x
      ];
    }

-- its low is above the least: it takes the place of one that has the least, which joins the candidates
pub noted_exchange : (V : List ℕ → ℕ) (k m : ℕ) (A : List Access) (a : Access) (first : Slots) (candidates : List (Option ℕ)) (place slot left : ℕ)
    → AreNextBounds (low V m A) (high V m A) (low V m (A ++ a ∷ [])) (high V m (A ++ a ∷ [])) (object_of a)
    → Contains (seen_objects (A ++ a ∷ [])) (object_of a) → length (seen_objects (A ++ a ∷ [])) ≤ first.room → IsLate V k m A first candidates
    → k ≤ length first.entries → HasNoSlot first.entries place → slice_get (seen_objects (A ++ a ∷ [])) place ≡ Some (object_of a)
    → (least : IsLeast first.entries slot) → least.entry.rank ≤ low V m (A ++ a ∷ []) (object_of a)
    → slice_get (seen_objects (A ++ a ∷ [])) least.entry.key ≡ Some left
    → AreDistinctKeys (set first.entries slot (record { key = place; rank = low V m (A ++ a ∷ []) (object_of a) }))
    → IsLate V k m (A ++ a ∷ []) (record first { entries = set first.entries slot (record { key = place; rank = low V m (A ++ a ∷ []) (object_of a) }) }) (set (set candidates place None) least.entry.key (Some (high V m (A ++ a ∷ []) left)))
noted_exchange V k m A a first candidates place slot left bounds c fits late many none there least above left_there distinct =
    let B = A ++ a ∷ [] in
    let o = object_of a in
    let seen = seen_objects A in
    let old : Entry = least.entry in
    let new : Entry = record { key = place; rank = low V m B o } in
    let entries = set first.entries slot new in
    let emptied = set candidates place None in
    let now = set emptied old.key (Some (high V m B left)) in
    let either = old_or_new A a c in
    let full = late.full in
    let enough : k ≤ length seen = omega arith in
    let lt = slice_get_within first.entries slot old least.there in
    let outside : is_first A first.entries o ≡ false = not_first A a first.entries place either late.places there none in
    let g = grown_by A a either in
    let place_within = slice_get_within (seen_objects B) place o there in
    let left_within = late.places slot old least.there in
    let no_less = no_fewer A a either in
    let room : place < length candidates = (let r = late.room in omega arith) in
    let emptied_size : length emptied ≡ length candidates = length-set candidates place None in
    let left_room : old.key < length emptied = (let r = late.room in let f = late.fits in omega arith) in
    let now_size : length now ≡ length emptied = length-set emptied old.key (Some (high V m B left)) in
    let entries_size : length entries ≡ length first.entries = length-set first.entries slot new in
    let left_at : slice_get seen old.key ≡ Some left = before_at A a old.key left either left_within left_there in
    let left_low : old.rank ≡ low V m A left = late.lows slot left old least.there left_at in
    let member : is_first A first.entries left ≡ true = ap (at_place (has_place first.entries)) (place_at seen old.key left (seen_distinct A) left_at) ∙ has_from first.entries slot old least.there in
    let names : NamesOutside k seen g.more (is_first A first.entries) o = record {
      enough = enough;
      apart = subst (λ os. AreApart os) g.grown (seen_distinct B);
      outside = outside;
      there = subst (λ os. Contains os o) g.grown c;
      only = g.only;
      others = g.others;
    } in
    let keeps : KeepsCandidates k (low V m B) (high V m B) (seen ++ g.more) (exchanged (is_first A first.entries) left o) (exchanged (is_candidate A candidates) o left) = keeps_of_exchange k (low V m A) (high V m A) (low V m B) (high V m B) seen g.more (is_first A first.entries) (is_candidate A candidates) o left bounds names late.keeps member
    (λ inside t. let from = least_of_first V k m A first candidates slot late least inside t in omega arith) (omega arith) in
    record {
      asked = late.asked;
      most = late.most;
      room = now_size ∙ emptied_size ∙ late.room;
      fits = fits;
      full = (let e : length entries ≡ min k (length (seen_objects B)) = omega arith in e);
      keeps = subst (λ os. KeepsCandidates k (low V m B) (high V m B) os (is_first B entries) (is_candidate B now)) (sym g.grown)
          (keeps_same k (low V m B) (high V m B) (seen ++ g.more) (exchanged (is_first A first.entries) left o) (is_first B entries) (exchanged (is_candidate A candidates) o left) (is_candidate B now)
          (λ x. at_exchanged (seen_objects B) (has_place first.entries) (has_place entries) old.key place left o x (seen_distinct B) left_there there (λ q. has_replaced first.entries slot old new q late.distinct least.there none)
          ∙ ap (λ b. (b && not (left == x)) || (o == x)) (first_now A a first.entries x either late.places))
          (λ x. at_exchanged (seen_objects B) (has_high candidates) (has_high now) place old.key o left x (seen_distinct B) there left_there
          (λ q. high_put emptied old.key (high V m B left) q left_room ∙ ap (λ b. b || (old.key == q)) (high_removed candidates place q room))
          ∙ ap (λ b. (b && not (o == x)) || (left == x)) (candidates_now V k m A a first candidates x either late)) keeps);
      distinct = distinct;
      places = λ s entry e. elim (cases_eq s slot) [
        | inl same ↦ (
            let is : new ≡ entry = same_Some new entry (sym (get_set_same first.entries slot new lt) ∙ ap (slice_get entries) (sym same) ∙ e) in
            let key : place ≡ entry.key = ap (λ (x : Entry). x.key) is in
            omega arith)
        | inr n ↦ (let l = late.places s entry (sym (get_set_other first.entries slot s new n) ∙ e) in omega arith)
      ];
      lows = λ s x entry e there_x. elim (cases_eq s slot) [
        | inl same ↦ (
            let is : new ≡ entry = same_Some new entry (sym (get_set_same first.entries slot new lt) ∙ ap (slice_get entries) (sym same) ∙ e) in
            let object : o ≡ x = same_Some o x (sym there ∙ ap (λ (y : Entry). slice_get (seen_objects B) y.key) is ∙ there_x) in
            sym (ap (λ (y : Entry). y.rank) is) ∙ ap (low V m B) object)
        | inr n ↦ lows_added V k m A a first candidates place bounds either late none there s x entry (sym (get_set_other first.entries slot s new n) ∙ e) there_x
      ];
      waiting = λ p kept e. elim (cases_eq p old.key) [
        | inl same ↦ omega arith
        | inr n ↦ (
            let in_emptied : rank_at emptied p ≡ Some kept = sym (get_or-set_other emptied old.key p (Some (high V m B left)) None n) ∙ e in
            elim (cases_eq p place) [
              | inl same ↦ omega arith
              | inr other ↦ (let l = late.waiting p kept (sym (get_or-set_other candidates place p None None other) ∙ in_emptied) in omega arith)
            ])
      ];
      highs = λ p x kept e there_x. elim (cases_eq p old.key) [
        | inl same ↦ (
            let object : left ≡ x = same_Some left x (sym left_there ∙ ap (slice_get (seen_objects B)) (sym same) ∙ there_x) in
            let is : high V m B left ≡ kept = same_Some (high V m B left) kept (sym (get_or-set_same emptied old.key (Some (high V m B left)) None left_room) ∙ ap (λ q. rank_at now q) (sym same) ∙ e) in
            let value : high V m B left ≡ high V m B x = ap (high V m B) object in
            omega arith)
        | inr n ↦ (
            let in_emptied : rank_at emptied p ≡ Some kept = sym (get_or-set_other emptied old.key p (Some (high V m B left)) None n) ∙ e in
            elim (cases_eq p place) [
              | inl same ↦ absurd (none-some kept (sym (get_or-set_same candidates place None None room) ∙ ap (λ q. rank_at emptied q) (sym same) ∙ in_emptied))
              | inr other ↦ highs_stay V k m A a first candidates p x kept bounds either late (sym (get_or-set_other candidates place p None None other) ∙ in_emptied) there_x
            ])
      ];
    }

-- the same where it was seen before: it is a candidate, or given up, as it was
pub noted_known : (V : List ℕ → ℕ) (k m : ℕ) (A : List Access) (a : Access) (first : Slots) (candidates : List (Option ℕ)) (place slot : ℕ)
    → AreNextBounds (low V m A) (high V m A) (low V m (A ++ a ∷ [])) (high V m (A ++ a ∷ [])) (object_of a)
    → Contains (seen_objects (A ++ a ∷ [])) (object_of a) → length (seen_objects (A ++ a ∷ [])) ≤ first.room → IsLate V k m A first candidates
    → k ≤ length first.entries → HasNoSlot first.entries place → slice_get (seen_objects (A ++ a ∷ [])) place ≡ Some (object_of a)
    → place < length (seen_objects A) → (least : IsLeast first.entries slot) → low V m (A ++ a ∷ []) (object_of a) ≤ least.entry.rank
    → IsLate V k m (A ++ a ∷ []) first candidates
noted_known V k m A a first candidates place slot bounds c fits late many none there before least below =
    let B = A ++ a ∷ [] in
    let o = object_of a in
    let seen = seen_objects A in
    let either = old_or_new A a c in
    let full = late.full in
    let enough : k ≤ length seen = omega arith in
    let outside : is_first A first.entries o ≡ false = not_first A a first.entries place either late.places there none in
    let was : Contains seen o = slice_get_contains seen place o (before_at A a place o either before there) in
    let grown : seen_objects B ≡ seen = elim either [ inl old ↦ old.1 | inr new ↦ absurd (new.0 was) ] in
    let size : length (seen_objects B) ≡ length seen = ap length grown in
    let keeps : KeepsCandidates k (low V m B) (high V m B) seen (is_first A first.entries) (is_candidate A candidates) = keeps_of_known k (low V m A) (high V m A) (low V m B) (high V m B) seen (is_first A first.entries) (is_candidate A candidates) o bounds enough was outside late.keeps
    (λ inside t. let from = least_of_first V k m A first candidates slot late least inside t in omega arith) in
    record {
      asked = late.asked;
      most = late.most;
      room = late.room;
      fits = fits;
      full = late.full ∙ ap (λ n. min k n) (sym size);
      keeps = subst (λ os. KeepsCandidates k (low V m B) (high V m B) os (is_first B first.entries) (is_candidate B candidates)) (sym grown)
          (keeps_same k (low V m B) (high V m B) seen (is_first A first.entries) (is_first B first.entries) (is_candidate A candidates) (is_candidate B candidates)
          (λ x. first_now A a first.entries x either late.places)
          (λ x. candidates_now V k m A a first candidates x either late) keeps);
      distinct = late.distinct;
      places = λ s entry e. (let l = late.places s entry e in omega arith);
      lows = λ s x entry e there_x. lows_added V k m A a first candidates place bounds either late none there s x entry e there_x;
      waiting = λ p kept e. (let l = late.waiting p kept e in omega arith);
      highs = λ p x kept e there_x. highs_stay V k m A a first candidates p x kept bounds either late e there_x;
    }

-- a slot's object is among the first, and its low is kept there
pub first_at : (V : List ℕ → ℕ) (k m : ℕ) (A : List Access) (first : Slots) (candidates : List (Option ℕ)) (slot : ℕ) (entry : Entry)
    → IsLate V k m A first candidates → slice_get first.entries slot ≡ Some entry
    → (object : ℕ) × (is_first A first.entries object ≡ true) × (entry.rank ≡ low V m A object)
first_at V k m A first candidates slot entry late at =
    let seen = seen_objects A in
    let within = late.places slot entry at in
    let object : ℕ = get_or seen entry.key 0 in
    let there : slice_get seen entry.key ≡ Some object = slice_get-get_or seen entry.key 0 within in
    (object, ap (at_place (has_place first.entries)) (place_at seen entry.key object (seen_distinct A) there) ∙ has_from first.entries slot entry at, late.lows slot object entry at there)
