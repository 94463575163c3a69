-- The grades that are known ahead of the lists, after one more access.
use Rattle.std.proofs.Common.{◌≡◌, ◌≢◌, ℕ, zero, suc, ◌+◌, ◌-◌, ◌<◌, ◌≤◌, inl, inr, true, false, cond, List, [], ◌∷◌, ◌++◌, length, AllPairs, Option, Some, None, slice_get, slice_index_or, slice_set, replicate, refl, sym, ap, subst, ◌∙◌, arith, length-append}
use Rattle.std.specs.Option.{option_and_then}
use Rattle.std.proofs.Math.Nat.{le_refl, le_trans}
use Rattle.std.proofs.lemmas.Bool.{cases_eq, cases_lt, true≢false}
use Rattle.std.proofs.lemmas.List.{get_or-set_same, get_or-set_other, length-set, length-replicate, replicate_more}
use Rattle.topk_theory.specs.declared.access.Access.{Access}
use Rattle.topk_theory.specs.declared.access.Access.TheVariants.{Sorted, Random}
use Rattle.topk_theory.specs.Transcript.{list_of, object_of, grade_of, is_sorted}
use Rattle.topk_theory.specs.Bounds.{known_grade}
use Rattle.topk_theory.specs.Consistent.{SomeAgrees}
use Rattle.topk_theory.proofs.AgreementLists.{slice_get_in_range, slice_get_reads}
use Rattle.topk_theory.proofs.Agreement.{known_grade_given, known_grade_other_object, known_grade_other_list}
use Rattle.containers.specs.Ranks.{rank_at, ranks_within}
use Rattle.containers.proofs.Within.{rank_within}
use Rattle.ranked_list.proofs.OptionLaws.{option_cases}
use Rattle.access_log.specs.RecordsKept.{is_read, grade_ahead, heap_at, AreAhead, AreWider, HaveRoom}
use Rattle.access_log.proofs.RecordKept.{read_after, read_random, read_other_list, read_other_object}

-- the object at a place of the names
ahead_other_object : (A : List Access) (a : Access) (object list : ℕ) → object_of a ≢ object → grade_ahead (A ++ a ∷ []) object list ≡ grade_ahead A object list
ahead_other_object A a object list n =
    ap (λ b. cond b None (known_grade (A ++ a ∷ []) object list)) (read_other_object A a object list n)
    ∙ ap (λ o. cond (is_read A object list) None o) (known_grade_other_object A a object list n)

ahead_other_list : (A : List Access) (a : Access) (object list : ℕ) → list_of a ≢ list → grade_ahead (A ++ a ∷ []) object list ≡ grade_ahead A object list
ahead_other_list A a object list n =
    ap (λ b. cond b None (known_grade (A ++ a ∷ []) object list)) (read_other_list A a object list n)
    ∙ ap (λ o. cond (is_read A object list) None o) (known_grade_other_list A a object list n)

-- two places of distinct names have two names
pub apart : (names : List ℕ) (p q x y : ℕ) → AllPairs (λ (a : ℕ) (b : ℕ). a ≢ b) names → slice_get names p ≡ Some x → slice_get names q ≡ Some y → p ≢ q → x ≢ y
apart names p q x y d e f n = λ same.
    elim (cases_lt p q) [
      | inl l ↦ d p q x l (slice_get_in_range names q y f) (slice_get_reads names p x x e ∙ same ∙ sym (slice_get_reads names q y x f))
      | inr l ↦ d q p x (less q p l (λ z. n (sym z))) (slice_get_in_range names p x e) (slice_get_reads names q y x f ∙ sym same ∙ sym (slice_get_reads names p x x e))
    ]
  where
    less : (a b : ℕ) → a ≤ b → a ≢ b → a < b
    less a b l k = omega arith

-- in the other lists, and in this one at the other places, the grades ahead stay
other_lists : (A : List Access) (a : Access) (list : ℕ) (o : Option ℕ) → list_of a ≢ list
    → option_and_then (λ object. grade_ahead A object list) o ≡ option_and_then (λ object. grade_ahead (A ++ a ∷ []) object list) o
other_lists A a list None n = refl
other_lists A a list (Some object) n = sym (ahead_other_list A a object list n)

other_places : (A : List Access) (a : Access) (names : List ℕ) (place at : ℕ) → AllPairs (λ (x : ℕ) (y : ℕ). x ≢ y) names
    → slice_get names place ≡ Some (object_of a) → place ≢ at
    → option_and_then (λ object. grade_ahead A object (list_of a))
    (slice_get names at) ≡ option_and_then (λ object. grade_ahead (A ++ a ∷ []) object (list_of a)) (slice_get names at)
other_places A a names place at d e n =
    elim (option_cases (slice_get names at)) [
      | inl none ↦ ap (option_and_then (λ object. grade_ahead A object (list_of a))) none ∙ sym (ap (option_and_then (λ object. grade_ahead (A ++ a ∷ []) object (list_of a))) none)
      | inr some ↦ ap (option_and_then (λ object. grade_ahead A object (list_of a))) some.1
          ∙ sym (ahead_other_object A a some.0 (list_of a) (apart names place at (object_of a) some.0 d e some.1 n))
          ∙ sym (ap (option_and_then (λ object. grade_ahead (A ++ a ∷ []) object (list_of a))) some.1)
    ]

in_list : (m : ℕ) (A : List Access) (a : Access) (names : List ℕ) (heap : List (Option ℕ)) (place : ℕ) (v : Option ℕ) (at : ℕ) → place < length heap
    → AllPairs (λ (x : ℕ) (y : ℕ). x ≢ y) names → slice_get names place ≡ Some (object_of a) → v ≡ grade_ahead (A ++ a ∷ []) (object_of a) (list_of a)
    → ((q : ℕ) → rank_at heap q ≡ option_and_then (λ object. grade_ahead A object (list_of a)) (slice_get names q))
    → rank_at (slice_set heap place v) at ≡ option_and_then (λ object. grade_ahead (A ++ a ∷ []) object (list_of a)) (slice_get names at)
in_list m A a names heap place v at p d e f h =
    elim (cases_eq place at) [
      | inl same ↦ subst (λ q. rank_at (slice_set heap place v) q ≡ option_and_then (λ object. grade_ahead (A ++ a ∷ []) object (list_of a)) (slice_get names q)) same
          (get_or-set_same heap place v None p ∙ f ∙ sym (ap (option_and_then (λ object. grade_ahead (A ++ a ∷ []) object (list_of a))) e))
      | inr other ↦ get_or-set_other heap place at v None (λ q. other (sym q)) ∙ h at ∙ other_places A a names place at d e other
    ]

-- no grade ahead is set where that of the access's object stays
pub ahead_stays : (m : ℕ) (A : List Access) (a : Access) (names : List ℕ) (heaps : List (List (Option ℕ))) (place : ℕ)
    → AllPairs (λ (x : ℕ) (y : ℕ). x ≢ y) names → slice_get names place ≡ Some (object_of a)
    → grade_ahead A (object_of a) (list_of a) ≡ grade_ahead (A ++ a ∷ []) (object_of a) (list_of a) → AreAhead m A names heaps
    → AreAhead m (A ++ a ∷ []) names heaps
ahead_stays m A a names heaps place d e f h = record {
  sized = h.sized;
  grades = λ list at k. h.grades list at k ∙ elim (cases_eq (list_of a) list) [
    | inl same ↦ subst (λ j. option_and_then (λ object. grade_ahead A object j) (slice_get names at) ≡ option_and_then (λ object. grade_ahead (A ++ a ∷ []) object j) (slice_get names at)) same
        (elim (cases_eq place at) [
          | inl here ↦ subst (λ q. option_and_then (λ object. grade_ahead A object (list_of a)) (slice_get names q) ≡ option_and_then (λ object. grade_ahead (A ++ a ∷ []) object (list_of a)) (slice_get names q)) here
              (ap (option_and_then (λ object. grade_ahead A object (list_of a))) e ∙ f ∙ sym (ap (option_and_then (λ object. grade_ahead (A ++ a ∷ []) object (list_of a))) e))
          | inr there ↦ other_places A a names place at d e there
        ])
    | inr other ↦ other_lists A a list (slice_get names at) other
  ];
}

-- the grade ahead of the access's object after it
pub ahead_read : (A : List Access) (a : Access) → is_sorted a ≡ true → None ≡ grade_ahead (A ++ a ∷ []) (object_of a) (list_of a)
ahead_read A (Sorted list object grade) t = sym (ap (λ b. cond b None (known_grade (A ++ Sorted list object grade ∷ []) object list)) (read_after A list object grade))
ahead_read A (Random list object grade) t = absurd (true≢false (sym t))

pub ahead_known : (m n : ℕ) (A : List Access) (a : Access) → is_sorted a ≡ false → SomeAgrees m n (A ++ a ∷ []) → is_read A (object_of a) (list_of a) ≡ false
    → Some (grade_of a) ≡ grade_ahead (A ++ a ∷ []) (object_of a) (list_of a)
ahead_known m n A (Sorted list object grade) t some f = absurd (true≢false t)
ahead_known m n A (Random list object grade) t some f =
    sym (ap (λ b. cond b None (known_grade (A ++ Random list object grade ∷ []) object list)) (read_random A list object grade object list ∙ f)
    ∙ known_grade_given m n some.0 A (Random list object grade) some.1)

pub ahead_was_read : (A : List Access) (a : Access) → is_sorted a ≡ false → is_read A (object_of a) (list_of a) ≡ true
    → grade_ahead A (object_of a) (list_of a) ≡ grade_ahead (A ++ a ∷ []) (object_of a) (list_of a)
ahead_was_read A (Sorted list object grade) t r = absurd (true≢false t)
ahead_was_read A (Random list object grade) t r =
    ap (λ b. cond b None (known_grade A object list)) r
    ∙ sym (ap (λ b. cond b None (known_grade (A ++ Random list object grade ∷ []) object list)) (read_random A list object grade object list ∙ r))

-- one grade ahead is set, that of the access's object in its list
pub ahead_set : (m : ℕ) (A : List Access) (a : Access) (names : List ℕ) (heaps : List (List (Option ℕ))) (place : ℕ) (v : Option ℕ) → list_of a < length heaps
    → place < length (heap_at heaps (list_of a)) → AllPairs (λ (x : ℕ) (y : ℕ). x ≢ y) names → slice_get names place ≡ Some (object_of a)
    → v ≡ grade_ahead (A ++ a ∷ []) (object_of a) (list_of a) → AreAhead m A names heaps
    → AreAhead m (A ++ a ∷ []) names (slice_set heaps (list_of a) (slice_set (heap_at heaps (list_of a)) place v))
ahead_set m A a names heaps place v l p d e f h =
    let heap : List (Option ℕ) = heap_at heaps (list_of a) in
    record {
      sized = length-set heaps (list_of a) (slice_set heap place v) ∙ h.sized;
      grades = λ list at k. elim (cases_eq (list_of a) list) [
        | inl same ↦ subst (λ j. rank_at (heap_at (slice_set heaps (list_of a) (slice_set heap place v)) j) at ≡ option_and_then (λ object. grade_ahead (A ++ a ∷ []) object j) (slice_get names at)) same
            (ap (λ ranks. rank_at ranks at) (get_or-set_same heaps (list_of a) (slice_set heap place v) [] l)
            ∙ in_list m A a names heap place v at p d e f (λ q. h.grades (list_of a) q (subst (λ j. j < m) (sym same) k)))
        | inr other ↦ ap (λ ranks. rank_at ranks at) (get_or-set_other heaps (list_of a) list (slice_set heap place v) [] (λ q. other (sym q)))
            ∙ h.grades list at k ∙ other_lists A a list (slice_get names at) other
      ];
    }

-- as the heaps are written
pub at_any : {X : Type 0} → (xs : List X) (i : ℕ) (d e : X) → i < length xs → slice_index_or xs i d ≡ slice_index_or xs i e
at_any [] i d e l = absurd (omega arith)
at_any (x ∷ xs) zero d e l = refl
at_any (x ∷ xs) (suc i) d e l = at_any xs i d e (omega arith)

pub ahead_written : (m : ℕ) (A : List Access) (a : Access) (names : List ℕ) (heaps : List (List (Option ℕ))) (list place : ℕ) (v : Option ℕ)
    (heap d now : List (Option ℕ)) → list ≡ list_of a → heap ≡ slice_index_or heaps list d → now ≡ slice_set heap place v → list_of a < length heaps
    → place < length (heap_at heaps (list_of a)) → AllPairs (λ (x : ℕ) (y : ℕ). x ≢ y) names → slice_get names place ≡ Some (object_of a)
    → v ≡ grade_ahead (A ++ a ∷ []) (object_of a) (list_of a) → AreAhead m A names heaps → AreAhead m (A ++ a ∷ []) names (slice_set heaps list now)
ahead_written m A a names heaps list place v heap d now e f g l p q r s h =
    let same : heap ≡ heap_at heaps (list_of a) = f ∙ ap (λ k. slice_index_or heaps k d) e ∙ at_any heaps (list_of a) d [] l in
    subst (λ hs. AreAhead m (A ++ a ∷ []) names hs)
    (sym (ap (λ k. slice_set heaps k now) e ∙ ap (λ z. slice_set heaps (list_of a) z) (g ∙ ap (λ z. slice_set z place v) same)))
    (ahead_set m A a names heaps place v l p q r s h)

-- wider heaps
pub ahead_wider : (m : ℕ) (A : List Access) (names : List ℕ) (heaps wider : List (List (Option ℕ))) → AreWider heaps wider → AreAhead m A names heaps
    → AreAhead m A names wider
ahead_wider m A names heaps wider w h = record {
  sized = w.sized ∙ h.sized;
  grades = λ list place l. w.ranks list place ∙ h.grades list place l;
}

pub room_wider : (room : ℕ) (heaps wider : List (List (Option ℕ))) → AreWider heaps wider → HaveRoom room heaps → HaveRoom room wider
room_wider room heaps wider w h = λ list l.
    let before : room ≤ length (heap_at heaps list) = h list (subst (λ n. list < n) w.sized l) in
    let more = w.room list in
    omega arith

pub wider_same : (heaps : List (List (Option ℕ))) → AreWider heaps heaps
wider_same heaps = record { sized = refl; ranks = λ list place. refl; room = λ list. le_refl (length (heap_at heaps list)) }

pub wider_then : (heaps wide wider : List (List (Option ℕ))) → AreWider heaps wide → AreWider wide wider → AreWider heaps wider
wider_then heaps wide wider v w = record {
  sized = w.sized ∙ v.sized;
  ranks = λ list place. w.ranks list place ∙ v.ranks list place;
  room = λ list. le_trans (v.room list) (w.room list);
}

-- a heap with no less room and the ranks that it had
abbrev pub IsWider : List (Option ℕ) → List (Option ℕ) → Type 0
IsWider heap wide = ((place : ℕ) → rank_at wide place ≡ rank_at heap place) × (length heap ≤ length wide)

pub is_as_wide : (heap now : List (Option ℕ)) → now ≡ heap → IsWider heap now
is_as_wide heap now e = (λ place. ap (λ h. rank_at h place) e, omega (arith, ap (length {A = Option ℕ}) e))

pub is_wider : (room : ℕ) (heap now : List (Option ℕ)) → now ≡ ranks_within room heap → IsWider heap now
is_wider room heap now e =
    (λ place. ap (λ h. rank_at h place) e ∙ rank_within room heap place, omega (arith, ap (length {A = Option ℕ}) e, length-append heap (replicate (room - length heap) None)))

-- one heap is written
pub one_wider : (heaps : List (List (Option ℕ))) (list : ℕ) (heap d now : List (Option ℕ)) → list < length heaps → heap ≡ slice_index_or heaps list d
    → IsWider heap now → AreWider heaps (slice_set heaps list now)
one_wider heaps list heap d now l e w =
    let same : heap ≡ heap_at heaps list = e ∙ at_any heaps list d [] l in
    record {
      sized = length-set heaps list now;
      ranks = λ at place. elim (cases_eq list at) [
        | inl here ↦ subst (λ j. rank_at (heap_at (slice_set heaps list now) j) place ≡ rank_at (heap_at heaps j) place) here
            (ap (λ h. rank_at h place) (get_or-set_same heaps list now [] l) ∙ w.0 place ∙ ap (λ h. rank_at h place) same)
        | inr other ↦ ap (λ h. rank_at h place) (get_or-set_other heaps list at now [] (λ q. other (sym q)))
      ];
      room = λ at. elim (cases_eq list at) [
        | inl here ↦ subst (λ j. length (heap_at heaps j) ≤ length (heap_at (slice_set heaps list now) j)) here
            (omega (arith, ap (length {A = Option ℕ}) (get_or-set_same heaps list now [] l), w.1, ap (length {A = Option ℕ}) same))
        | inr other ↦ omega (arith, ap (length {A = Option ℕ}) (get_or-set_other heaps list at now [] (λ q. other (sym q))))
      ];
    }

pub one_more_has_room : (room : ℕ) (heaps : List (List (Option ℕ))) (list : ℕ) (heap now : List (Option ℕ)) → list < length heaps
    → now ≡ ranks_within room heap → ((k : ℕ) → k < list → room ≤ length (heap_at heaps k))
    → (k : ℕ) → k < list + 1 → room ≤ length (heap_at (slice_set heaps list now) k)
one_more_has_room room heaps list heap now l e before k h = elim (cases_eq list k) [
  | inl here ↦ subst (λ j. room ≤ length (heap_at (slice_set heaps list now) j)) here
      (omega (arith, ap (length {A = Option ℕ}) (get_or-set_same heaps list now [] l), ap (length {A = Option ℕ}) e, length-append heap (replicate (room - length heap) None), length-replicate {A = Option ℕ} (room - length heap) None))
  | inr other ↦
      let same = ap (length {A = Option ℕ}) (get_or-set_other heaps list k now [] (λ q. other (sym q))) in
      let at = before k (omega (arith, h, other)) in
      omega (arith, same, at)
]

-- a heap is written, and has the room that it had
pub room_written : (room : ℕ) (heaps : List (List (Option ℕ))) (list : ℕ) (heap d now : List (Option ℕ)) → list < length heaps
    → heap ≡ slice_index_or heaps list d → length now ≡ length heap → HaveRoom room heaps → HaveRoom room (slice_set heaps list now)
room_written room heaps list heap d now l e s h = λ at k.
    let same : heap ≡ heap_at heaps list = e ∙ at_any heaps list d [] l in
    let within : at < length heaps = subst (λ n. at < n) (length-set heaps list now) k in
    elim (cases_eq list at) [
      | inl here ↦ subst (λ j. room ≤ length (heap_at (slice_set heaps list now) j)) here
          (omega (arith, ap (length {A = Option ℕ}) (get_or-set_same heaps list now [] l), s, ap (length {A = Option ℕ}) same, h list l))
      | inr other ↦ omega (arith, ap (length {A = Option ℕ}) (get_or-set_other heaps list at now [] (λ q. other (sym q))), h at within)
    ]

-- one heap more without a rank
pub none_more : (n : ℕ) (heaps now : List (List (Option ℕ))) (heap : List (Option ℕ)) → now ≡ heaps ++ heap ∷ [] → heaps ≡ replicate n [] → heap ≡ []
    → now ≡ replicate (n + 1) []
none_more n heaps now heap e f g =
    e ∙ ap (λ (hs : List (List (Option ℕ))). hs ++ heap ∷ []) f ∙ ap (λ (h : List (Option ℕ)). replicate n [] ++ h ∷ []) g ∙ replicate_more {X = List (Option ℕ)} n []

-- no grades are known ahead before any access
pub ahead_none : (m : ℕ) (heaps : List (List (Option ℕ))) → heaps ≡ replicate m [] → AreAhead m [] [] heaps
ahead_none m heaps e = record {
  sized = ap (length {A = List (Option ℕ)}) e ∙ length-replicate m [];
  grades = λ list place l. ap (λ hs. rank_at (heap_at hs list) place) e ∙ ap (λ heap. rank_at heap place) (heap_of_none m list);
}
  where
    heap_of_none : (n list : ℕ) → heap_at (replicate n []) list ≡ []
    heap_of_none zero list = refl
    heap_of_none (suc n) zero = refl
    heap_of_none (suc n) (suc list) = heap_of_none n list
