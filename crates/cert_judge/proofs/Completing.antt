-- The table against an object, row by row.
use Rattle.std.proofs.Common.{◌≡◌, ◌≢◌, ℕ, zero, suc, ◌+◌, ◌-◌, ◌<◌, ◌≤◌, ◌^◌, inl, inr, Bool, true, false, cond, ◌==◌, ◌&&◌, ◌||◌, not, nat_lt, List, [], ◌∷◌, ◌++◌, length, map, take, drop, filter, get_or, AllPairs, Contains, Option, Some, None, unwrap_or, slice_get, slice_index_or, min, refl, sym, ap, ap₂, subst, ◌∙◌, arith, append_assoc, append-nil, length-append, length-take, take-append-drop, eqb-true}
use Rattle.std.specs.List.{range_with_len}
use Rattle.std.proofs.lemmas.Bool.{cases_Bool, cases_lt, cond-true, cond-false, lt-ltb, le-ltb, or_right}
use Rattle.std.proofs.lemmas.List.{take_more, take_all, take-append-le, map-append, length-map}
use Rattle.std.proofs.lemmas.List.FromFn.{get_or-map-range_with_len}
use Rattle.std.proofs.lemmas.List.Elements.{filter-append}
use Rattle.std.proofs.lemmas.List.Kept.{AllPairs-filter}
use Rattle.std.proofs.lemmas.Bool.{and_from}
use Rattle.std.proofs.Math.Bool.{or-false}
use Rattle.ranked_list.specs.declared.row.Row.{Row}
use Rattle.ranked_list.specs.Table.{objects}
use Rattle.topk_theory.specs.declared.access.Access.{Access}
use Rattle.topk_theory.specs.Transcript.{sorted_rows, list_numbers}
use Rattle.topk_theory.specs.Bounds.{known_grade}
use Rattle.topk_theory.specs.Consistent.{SomeAgrees}
use Rattle.topk_theory.specs.Fixes.{IsObjectSet}
use Rattle.topk_theory.specs.Adversary.{by_grade, graded, unread, filled, chosen, against, unnamed}
use Rattle.topk_theory.proofs.AgreementLists.{front_next}
use Rattle.topk_theory.proofs.AgreementNames.{has, not_has, has_push}
use Rattle.topk_theory.proofs.Agreement.{sorted_rows_append, depth_fits}
use Rattle.topk_theory.proofs.ConsistentRows.{graded_distinct}
use Rattle.topk_theory.proofs.AdversaryOrder.{by_grade_is}
use Rattle.topk_theory.proofs.ThresholdLists.{filter_fits}
use Rattle.topk_theory.proofs.ListNumbers.{range_more}

-- the smallest unseen ids, one after another
unnamed_more : (i : ℕ) (S : List ℕ) → unnamed (i + 1) S ≡ unnamed i S ++ cond (has i S) [] (i ∷ [])
unnamed_more i S =
    ap (filter (λ o. not (has o S))) (range_more i) ∙ filter-append (λ o. not (has o S)) (range_with_len 0 i) (i ∷ [])
    ∙ ap (λ s. unnamed i S ++ s) (one i S)
  where
    one : (i : ℕ) (S : List ℕ) → filter (λ o. not (has o S)) (i ∷ []) ≡ cond (has i S) [] (i ∷ [])
    one i S = elim (has i S) as (λ b. cond (not b) (i ∷ []) [] ≡ cond b [] (i ∷ [])) [ true ↦ refl | false ↦ refl ]

-- so many of S and of the others as there is room for
abbrev pub set_so_far : ℕ → ℕ → List ℕ → List ℕ
set_so_far n i S = S ++ take (n - length S) (unnamed i S)

pub set_begins : (n : ℕ) (S : List ℕ) → S ≡ set_so_far n 0 S
set_begins n S = sym (ap (λ s. S ++ s) (take_nil (n - length S)) ∙ append-nil S)
  where
    take_nil : (k : ℕ) → take k (unnamed 0 S) ≡ []
    take_nil zero = refl
    take_nil (suc k) = refl

take_push : (k : ℕ) (xs : List ℕ) (x : ℕ) → take k (xs ++ x ∷ []) ≡ cond (nat_lt (length xs) k) (take k xs ++ x ∷ []) (take k xs)
take_push k xs x =
    elim (cases_lt (length xs) k) [
      | inl l ↦ take_all k (xs ++ x ∷ []) (omega (arith, length-append xs (x ∷ []))) ∙ ap (λ s. s ++ x ∷ []) (sym (take_all k xs (omega arith)))
          ∙ sym (cond-true (nat_lt (length xs) k) (take k xs ++ x ∷ []) (take k xs) (lt-ltb (length xs) k l))
      | inr g ↦ take-append-le k xs (x ∷ []) g ∙ sym (cond-false (nat_lt (length xs) k) (take k xs ++ x ∷ []) (take k xs) (le-ltb (length xs) k g))
    ]

set_kept : (n i : ℕ) (S found : List ℕ) → found ≡ set_so_far n i S → has i S ≡ true → found ≡ set_so_far n (i + 1) S
set_kept n i S found e t =
    e ∙ ap (λ u. S ++ take (n - length S) u) (sym (unnamed_more i S ∙ ap (λ b. unnamed i S ++ cond b [] (i ∷ [])) t ∙ append-nil (unnamed i S)))

set_grown : (n i : ℕ) (S found : List ℕ) → found ≡ set_so_far n i S → has i S ≡ false
    → cond (nat_lt (length found) n) (found ++ i ∷ []) found ≡ set_so_far n (i + 1) S
set_grown n i S found e f =
    let U = unnamed i S in
    let k = n - length S in
    let more : unnamed (i + 1) S ≡ U ++ i ∷ [] = unnamed_more i S ∙ ap (λ b. U ++ cond b [] (i ∷ [])) f in
    let size : length found ≡ length S + min k (length U) = ap length e ∙ length-append S (take k U) ∙ ap (λ j. length S + j) (length-take k U) in
    let taken : take k (U ++ i ∷ []) ≡ cond (nat_lt (length U) k) (take k U ++ i ∷ []) (take k U) = take_push k U i in
    elim (cases_lt (length U) k) [
      | inl l ↦
          cond-true (nat_lt (length found) n) (found ++ i ∷ []) found (lt-ltb (length found) n (omega arith))
          ∙ ap (λ s. s ++ i ∷ []) e ∙ append_assoc S (take k U) (i ∷ [])
          ∙ ap (λ s. S ++ s) (sym (taken ∙ cond-true (nat_lt (length U) k) (take k U ++ i ∷ []) (take k U) (lt-ltb (length U) k l)))
          ∙ ap (λ u. S ++ take k u) (sym more)
      | inr g ↦
          cond-false (nat_lt (length found) n) (found ++ i ∷ []) found (le-ltb (length found) n (omega arith))
          ∙ e ∙ ap (λ s. S ++ s) (sym (taken ∙ cond-false (nat_lt (length U) k) (take k U ++ i ∷ []) (take k U) (le-ltb (length U) k g)))
          ∙ ap (λ u. S ++ take k u) (sym more)
    ]

pub set_more : (n i : ℕ) (S found after : List ℕ) → found ≡ set_so_far n i S
    → after ≡ cond (nat_lt (length found) n && not (has i S)) (found ++ i ∷ []) found → after ≡ set_so_far n (i + 1) S
set_more n i S found after e a =
    elim (cases_Bool (has i S)) [
      | inl t ↦ a ∙ ap (λ b. cond b (found ++ i ∷ []) found) (ap (λ b. nat_lt (length found) n && not b) t ∙ and_none (nat_lt (length found) n)) ∙ set_kept n i S found e t
      | inr f ↦ a ∙ ap (λ b. cond b (found ++ i ∷ []) found) (ap (λ b. nat_lt (length found) n && not b) f ∙ and_all (nat_lt (length found) n)) ∙ set_grown n i S found e f
    ]
  where
    and_none : (b : Bool) → (b && false) ≡ false
    and_none true = refl
    and_none false = refl

    and_all : (b : Bool) → (b && true) ≡ b
    and_all true = refl
    and_all false = refl

-- the rows of the objects that weren't read, one after another
pub unread_more : (G : ℕ → ℕ) (objects read : List ℕ) (i : ℕ) (rows after : List Row) → i < length objects
    → rows ≡ graded G (filter (λ o. not (has o read)) (take i objects))
    → after ≡ cond (has (get_or objects i 0) read) rows (rows ++ record { object = get_or objects i 0; grade = G (get_or objects i 0) } ∷ [])
    → after ≡ graded G (filter (λ o. not (has o read)) (take (i + 1) objects))
unread_more G objects read i rows after l e a =
    let o = get_or objects i 0 in
    let p : ℕ → Bool = λ z. not (has z read) in
    let row : Row = record { object = o; grade = G o } in
    a ∙ one (has o read) G o rows
    ∙ ap (λ r. r ++ graded G (cond (not (has o read)) (o ∷ []) [])) e
    ∙ sym (ap (λ xs. graded G (filter p xs)) (take_more objects i 0 l) ∙ ap (graded G) (filter-append p (take i objects) (o ∷ []))
    ∙ map-append (λ z. record { object = z; grade = G z }) (filter p (take i objects)) (cond (not (has o read)) (o ∷ []) []))
  where
    one : (b : Bool) (G : ℕ → ℕ) (o : ℕ) (rows : List Row)
        → cond b rows (rows ++ record { object = o; grade = G o } ∷ []) ≡ rows ++ graded G (cond (not b) (o ∷ []) [])
    one true G o rows = sym (append-nil rows)
    one false G o rows = refl

-- the objects that weren't read, by what is known to be read
pub same_unread : (read : List ℕ) (rows : List Row) (O : List ℕ) → ((o : ℕ) → has o read ≡ has o (objects rows))
    → filter (λ o. not (has o read)) O ≡ unread rows O
same_unread read rows [] same = refl
same_unread read rows (x ∷ O) same =
    ap (λ b. cond (not b) (x ∷ filter (λ o. not (has o read)) O) (filter (λ o. not (has o read)) O)) (same x)
    ∙ ap (λ s. cond (not (has x (objects rows))) (x ∷ s) s) (same_unread read rows O same)

-- the rows that were read, one access after another
pub read_more : (A : List Access) (place list : ℕ) (a : Access) (rows after : List Row) → slice_get A place ≡ Some a → rows ≡ sorted_rows list (take place A)
    → after ≡ rows ++ sorted_rows list (a ∷ []) → after ≡ sorted_rows list (take (place + 1) A)
read_more A place list a rows after at e more =
    more ∙ ap (λ s. s ++ sorted_rows list (a ∷ [])) e ∙ sym (sorted_rows_append list (take place A) (a ∷ []))
    ∙ ap (sorted_rows list) (front_next A place a at)

pub few_read : (A : List Access) (m n place list : ℕ) → SomeAgrees m n A → list < m → n ≤ 200000 → length (sorted_rows list (take place A)) + 1 < 2 ^ 32
few_read A m n place list some l few =
    let whole : length (sorted_rows list A) ≡ length (sorted_rows list (take place A)) + length (sorted_rows list (drop place A)) =
    ap (λ B. length (sorted_rows list B)) (sym (take-append-drop place A)) ∙ ap length (sorted_rows_append list (take place A) (drop place A))
    ∙ length-append (sorted_rows list (take place A)) (sorted_rows list (drop place A)) in
    let fits : length (sorted_rows list A) ≤ n = depth_fits m n some.0 A list some.1 l in
    omega arith

absorbs : (o x : ℕ) (xs : List ℕ) → has x xs ≡ true → has o xs ≡ (has o xs || (x == o))
absorbs o x xs t = elim (x == o) as (λ b. (x == o) ≡ b → has o xs ≡ (has o xs || b)) [
  | true ↦ λ e. let here : has o xs ≡ true = subst (λ z. has z xs ≡ true) (eqb-true x o e) t in here ∙ sym (or_right (has o xs) true refl)
  | false ↦ λ e. sym (or-false (has o xs))
] refl

-- the objects of rows, one row after another
pub objects_more : (rows : List Row) (place : ℕ) (row : Row) (read after : List ℕ) → slice_get rows place ≡ Some row
    → ((o : ℕ) → has o read ≡ has o (objects (take place rows))) → after ≡ cond (has row.object read) read (read ++ row.object ∷ [])
    → (o : ℕ) → has o after ≡ has o (objects (take (place + 1) rows))
objects_more rows place row read after at same e o =
    let next : take (place + 1) rows ≡ take place rows ++ row ∷ [] = sym (front_next rows place row at) in
    let listed : objects (take (place + 1) rows) ≡ objects (take place rows) ++ row.object ∷ [] = ap objects next ∙ map-append (λ (z : Row). z.object) (take place rows) (row ∷ []) in
    let whole : has o (objects (take (place + 1) rows)) ≡ has o (objects (take place rows)) || (row.object == o) = ap (has o) listed ∙ has_push o (objects (take place rows)) row.object in
    elim (cases_Bool (has row.object read)) [
      | inl t ↦ ap (has o) (e ∙ cond-true (has row.object read) read (read ++ row.object ∷ []) t) ∙ absorbs o row.object read t ∙ ap (λ b. b || (row.object == o)) (same o) ∙ sym whole
      | inr f ↦ ap (has o) (e ∙ cond-false (has row.object read) read (read ++ row.object ∷ []) f) ∙ has_push o read row.object ∙ ap (λ b. b || (row.object == o)) (same o) ∙ sym whole
    ]

-- an unseen id is added where there is room
pub added_unseen : (n : ℕ) (found S : List ℕ) (o : ℕ) → length found < n → (¬ Contains S o)
    → cond (nat_lt (length found) n && not (has o S)) (found ++ o ∷ []) found ≡ found ++ o ∷ []
added_unseen n found S o room unseen =
    cond-true (nat_lt (length found) n && not (has o S)) (found ++ o ∷ []) found
    (and_from (nat_lt (length found) n) (not (has o S)) (lt-ltb (length found) n room) (ap not (not_has o S unseen)))

-- one more of the rows that are added
pub added_row : (old more rows after : List Row) (i : ℕ) → i < length more → rows ≡ old ++ take i more
    → after ≡ rows ++ slice_index_or more i (record { object = 0; grade = 0 }) ∷ [] → after ≡ old ++ take (i + 1) more
added_row old more rows after i l e a =
    let row : Row = slice_index_or more i (record { object = 0; grade = 0 }) in
    a ∙ ap (λ r. r ++ row ∷ []) e ∙ append_assoc old (take i more) (row ∷ []) ∙ ap (λ r. old ++ r) (sym (take_more more i (record { object = 0; grade = 0 }) l))

-- the chosen grade, by the known ones
pub chosen_by : (A : List Access) (m list inside object result unknown : ℕ) (known : List (Option ℕ)) → list < m
    → known ≡ map (λ l. known_grade A object l) (list_numbers m) → unknown ≡ against inside A list object → result ≡ unwrap_or (slice_index_or known list None) unknown
    → result ≡ chosen (against inside A) A list object
chosen_by A m list inside object result unknown known l k u r =
    r ∙ ap₂ unwrap_or (ap (λ ks. slice_index_or ks list None) k ∙ get_or-map-range_with_len (λ l. known_grade A object l) 0 m list list None l (omega arith)) u

-- the rows of objects that weren't read are of different objects
pub rest_apart : (G : ℕ → ℕ) (read O : List ℕ) (rows : List Row) → AllPairs (λ (x : ℕ) (y : ℕ). x ≢ y) O → rows ≡ graded G (filter (λ o. not (has o read)) O)
    → AllPairs (λ (one : Row) (other : Row). one.object ≢ other.object) rows
rest_apart G read O rows apart e =
    subst (AllPairs (λ (one : Row) (other : Row). one.object ≢ other.object)) (sym e)
    (graded_distinct G (filter (λ o. not (has o read)) O) (AllPairs-filter (λ (x : ℕ) (y : ℕ). x ≢ y) (λ o. not (has o read)) O apart))

-- a slice that was lent whole comes back whole
lent_whole : (n : ℕ) (new old : List Row) → n ≡ length new → take n (new ++ drop (length new) old) ≡ new
lent_whole n new old e = take-append-le n new (drop (length new) old) (omega arith) ∙ take_all n new (omega arith)

pub sorted_rest : (G : ℕ → ℕ) (read O : List ℕ) (rows lent sorted rest : List Row) (n : ℕ) → AllPairs (λ (x : ℕ) (y : ℕ). x ≢ y) O
    → ((o : ℕ) → has o read ≡ has o (objects rows))
    → lent ≡ graded G (filter (λ o. not (has o read)) O) → sorted ≡ by_grade lent → n ≡ length lent → rest ≡ take n (sorted ++ drop (length sorted) lent)
    → rest ≡ by_grade (graded G (unread rows O))
sorted_rest G read O rows lent sorted rest n apart same e s long r =
    let size : length (by_grade lent) ≡ length lent = (by_grade_is lent (rest_apart G read O lent apart e)).size in
    r ∙ lent_whole n sorted lent (long ∙ sym size ∙ ap length (sym s)) ∙ s ∙ ap by_grade (e ∙ ap (graded G) (same_unread read rows O same))

-- there is room for the rest
pub few_rest : (m n list : ℕ) (A : List Access) (G : ℕ → ℕ) (O : List ℕ) (rows rest : List Row) → SomeAgrees m n A → list < m → n ≤ 200000 → IsObjectSet n O
    → rows ≡ sorted_rows list A → rest ≡ by_grade (graded G (unread rows O)) → length rows + length rest < 2 ^ 32
few_rest m n list A G O rows rest some l few set r e =
    let read : length (sorted_rows list A) ≤ n = depth_fits m n some.0 A list some.1 l in
    let apart = graded_distinct G (unread rows O) (AllPairs-filter (λ (x : ℕ) (y : ℕ). x ≢ y) (λ o. not (has o (objects rows))) O set.distinct) in
    let size : length (by_grade (graded G (unread rows O))) ≡ length (graded G (unread rows O)) = (by_grade_is (graded G (unread rows O)) apart).size in
    let mapped : length (graded G (unread rows O)) ≡ length (unread rows O) = length-map (unread rows O) (λ o. record { object = o; grade = G o }) in
    let fewer : length (unread rows O) ≤ length O = filter_fits (λ o. not (has o (objects rows))) O in
    omega (arith, ap length r, ap length e, set.sized)

-- the rows that were read and the rest are the filled list
pub filled_from : (list : ℕ) (A : List Access) (G : ℕ → ℕ) (O : List ℕ) (rows rest whole : List Row) → rows ≡ sorted_rows list A
    → rest ≡ by_grade (graded G (unread rows O))
    → whole ≡ rows ++ rest → whole ≡ filled G O (sorted_rows list A)
filled_from list A G O rows rest whole r e w = w ∙ ap (λ s. rows ++ s) e ∙ ap (filled G O) r
