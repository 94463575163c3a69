-- The record of an object after one more access.
use Rattle.std.proofs.Common.{◌≡◌, ◌≢◌, ℕ, suc, ◌+◌, ◌<◌, inl, inr, Bool, true, false, cond, ◌||◌, List, [], ◌∷◌, ◌++◌, length, Contains, Some, None, nat_eq, position, is_none, slice_get, slice_index_or, slice_set, refl, sym, ap, subst, ◌∙◌, arith, eqb-true, eq-eqb, ne_eqb, add-zero, zero-add}
use Rattle.std.specs.List.{position_from}
use Rattle.std.proofs.lemmas.Bool.{cases_Bool, cases_eq, true≢false}
use Rattle.std.proofs.lemmas.Iterator.Adapters.{position_from-zero}
use Rattle.std.proofs.lemmas.List.{get_or-set_same, get_or-set_other, length-set, map-append}
use Rattle.ranked_list.specs.declared.row.Row.{Row}
use Rattle.ranked_list.specs.Table.{objects}
use Rattle.ranked_list.proofs.OptionLaws.{option_cases}
use Rattle.topk_theory.specs.declared.access.Access.{Access}
use Rattle.topk_theory.specs.declared.access.Access.TheVariants.{Sorted, Random}
use Rattle.topk_theory.specs.Transcript.{list_of, object_of, grade_of, is_sorted, sorted_rows, named_objects, seen_objects}
use Rattle.topk_theory.specs.Bounds.{known_grade}
use Rattle.topk_theory.specs.Consistent.{SomeAgrees}
use Rattle.topk_theory.proofs.AgreementLists.{contains_nil, contains_here, contains_there, contains_cases, contains_map_from, slice_get_contains}
use Rattle.topk_theory.proofs.AgreementNames.{has, has_contains, contains_has, has_not, not_has, has_push}
use Rattle.topk_theory.proofs.Agreement.{sorted_rows_sorted, sorted_rows_other, sorted_rows_random, seen_objects_old, seen_objects_new, seen_objects_random, known_grade_given, known_grade_other_object, known_grade_other_list}
use Rattle.topk_theory.proofs.ConsistentTable.{given_named, sorted_given}
use Rattle.access_log.specs.RecordsKept.{IsRecordOf, is_read}
use Rattle.access_log.specs.declared.record.Record.{Record}
use Rattle.topk_base.specs.declared.TheConstants.{MAX_LISTS}

-- a set place of a list of anything
set_here : {X : Type 0} → (g : ℕ → X) (xs : List X) (i : ℕ) (v d : X) → i < length xs → g i ≡ v → (j : ℕ) → i ≡ j → slice_index_or (slice_set xs i v) j d ≡ g j
set_here g xs i v d l e j same = subst (λ at. slice_index_or (slice_set xs i v) at d ≡ g at) same (get_or-set_same xs i v d l ∙ sym e)

set_there : {X : Type 0} → (xs : List X) (i : ℕ) (v d : X) (j : ℕ) → i ≢ j → slice_index_or (slice_set xs i v) j d ≡ slice_index_or xs j d
set_there xs i v d j n = get_or-set_other xs i j v d (λ q. n (sym q))

-- the first place of a number
position_some : (x i p : ℕ) (xs ys : List ℕ) → position_from (nat_eq x) i xs ≡ Some p → position_from (nat_eq x) i (xs ++ ys) ≡ Some p
position_some x i p [] ys e = absurd (none_some e)
  where
    none_some : {q : ℕ} → None ≡ Some q → ⊥
    none_some e = cc
position_some x i p (y ∷ xs) ys e =
    elim (cases_Bool (nat_eq x y)) [
      | inl t ↦ ap (λ b. cond b (Some i) (position_from (nat_eq x) (i + 1) (xs ++ ys))) t ∙ sym (ap (λ b. cond b (Some i) (position_from (nat_eq x) (i + 1) xs)) t) ∙ e
      | inr f ↦ ap (λ b. cond b (Some i) (position_from (nat_eq x) (i + 1) (xs ++ ys))) f ∙ position_some x (i + 1) p xs ys (sym (ap (λ b. cond b (Some i) (position_from (nat_eq x) (i + 1) xs)) f) ∙ e)
    ]

position_other : (x i y : ℕ) (xs : List ℕ) → y ≢ x → position_from (nat_eq x) i (xs ++ y ∷ []) ≡ position_from (nat_eq x) i xs
position_other x i y [] n = ap (λ b. cond b (Some i) None) (ne_eqb x y (λ q. n (sym q)))
position_other x i y (z ∷ xs) n = ap (λ o. cond (nat_eq x z) (Some i) o) (position_other x (i + 1) y xs n)

position_new : (x i : ℕ) (xs : List ℕ) → has x xs ≡ false → position_from (nat_eq x) i (xs ++ x ∷ []) ≡ Some (i + length xs)
position_new x i [] f = ap (λ b. cond b (Some i) None) (eq-eqb x x refl) ∙ ap Some (sym (add-zero i))
position_new x i (z ∷ xs) f =
    let n : z ≢ x = λ q. true≢false (sym (contains_has x (z ∷ xs) (subst (λ w. Contains (z ∷ xs) w) q (contains_here z xs))) ∙ f) in
    let rest : has x xs ≡ false = not_has x xs (λ c. true≢false (sym (contains_has x (z ∷ xs) (contains_there z xs x c)) ∙ f)) in
    let sum : i + 1 + length xs ≡ i + length (z ∷ xs) = omega arith in
    ap (λ b. cond b (Some i) (position_from (nat_eq x) (i + 1) (xs ++ x ∷ []))) (ne_eqb x z (λ q. n (sym q))) ∙ position_new x (i + 1) xs rest ∙ ap Some sum

pub position_absent : (x i : ℕ) (xs : List ℕ) → (¬ Contains xs x) → position_from (nat_eq x) i xs ≡ None
position_absent x i [] n = refl
position_absent x i (z ∷ xs) n =
    ap (λ b. cond b (Some i) (position_from (nat_eq x) (i + 1) xs)) (ne_eqb x z (λ q. n (subst (λ w. Contains (z ∷ xs) w) (sym q) (contains_here z xs))))
    ∙ position_absent x (i + 1) xs (λ c. n (contains_there z xs x c))

pub position_there : (x i : ℕ) (xs : List ℕ) → Contains xs x → position_from (nat_eq x) i xs ≡ None → ⊥
position_there x i [] c e = contains_nil x c
position_there x i (z ∷ xs) c e =
    elim (cases_Bool (nat_eq x z)) [
      | inl t ↦ some_none (sym (ap (λ b. cond b (Some i) (position_from (nat_eq x) (i + 1) xs)) t) ∙ e)
      | inr f ↦ elim (contains_cases z xs x c) [
        | inl same ↦ true≢false (sym (eq-eqb x z (sym same)) ∙ f)
        | inr rest ↦ position_there x (i + 1) xs rest (sym (ap (λ b. cond b (Some i) (position_from (nat_eq x) (i + 1) xs)) f) ∙ e)
      ]
    ]
  where
    some_none : {q : ℕ} → Some q ≡ None → ⊥
    some_none e = cc

-- a place that is found, counted from i, has the number
pub position_found : (x i p : ℕ) (xs : List ℕ) → position_from (nat_eq x) i xs ≡ Some p → (k : ℕ) × (p ≡ i + k) × (slice_get xs k ≡ Some x)
position_found x i p [] e = absurd (none_some e)
  where
    none_some : {q : ℕ} → None ≡ Some q → ⊥
    none_some e = cc
position_found x i p (z ∷ xs) e =
    elim (cases_Bool (nat_eq x z)) [
      | inl t ↦ (0, some_is (sym e ∙ ap (λ b. cond b (Some i) (position_from (nat_eq x) (i + 1) xs)) t) ∙ sym (add-zero i), ap Some (sym (eqb-true x z t)))
      | inr f ↦ let r = position_found x (i + 1) p xs (sym (ap (λ b. cond b (Some i) (position_from (nat_eq x) (i + 1) xs)) f) ∙ e) in
          let sum : p ≡ i + suc r.0 = omega arith in
          (suc r.0, sum, r.2)
    ]
  where
    some_is : {a b : ℕ} → Some a ≡ Some b → a ≡ b
    some_is e = cc

-- whether a list gave an object, after one more access
pub read_after : (A : List Access) (list object grade : ℕ) → is_read (A ++ Sorted list object grade ∷ []) object list ≡ true
read_after A list object grade =
    ap (λ rows. has object (objects rows)) (sorted_rows_sorted list A object grade)
    ∙ ap (has object) (map-append (λ (row : Row). row.object) (sorted_rows list A) (record { object = object; grade = grade } ∷ []))
    ∙ has_push object (objects (sorted_rows list A)) object
    ∙ or_with (has object (objects (sorted_rows list A))) (eq-eqb object object refl)
  where
    or_with : (b : Bool) {c : Bool} → c ≡ true → (b || c) ≡ true
    or_with true e = refl
    or_with false e = e

pub read_other_list : (A : List Access) (a : Access) (object list : ℕ) → list_of a ≢ list → is_read (A ++ a ∷ []) object list ≡ is_read A object list
read_other_list A (Sorted at o g) object list n = ap (λ rows. has object (objects rows)) (sorted_rows_other list at A o g n)
read_other_list A (Random at o g) object list n = ap (λ rows. has object (objects rows)) (sorted_rows_random list at A o g)

pub read_random : (A : List Access) (at o g object list : ℕ) → is_read (A ++ Random at o g ∷ []) object list ≡ is_read A object list
read_random A at o g object list = ap (λ rows. has object (objects rows)) (sorted_rows_random list at A o g)

pub read_other_object : (A : List Access) (a : Access) (object list : ℕ) → object_of a ≢ object → is_read (A ++ a ∷ []) object list ≡ is_read A object list
read_other_object A (Sorted at o g) object list n =
    elim (cases_eq at list) [
      | inl same ↦ subst (λ k. is_read (A ++ Sorted at o g ∷ []) object k ≡ is_read A object k) same
          (ap (λ rows. has object (objects rows)) (sorted_rows_sorted at A o g)
          ∙ ap (has object) (map-append (λ (row : Row). row.object) (sorted_rows at A) (record { object = o; grade = g } ∷ []))
          ∙ has_push object (objects (sorted_rows at A)) o
          ∙ or_without (has object (objects (sorted_rows at A))) (ne_eqb o object n))
      | inr other ↦ read_other_list A (Sorted at o g) object list other
    ]
  where
    or_without : (b : Bool) {c : Bool} → c ≡ false → (b || c) ≡ b
    or_without true e = refl
    or_without false e = e
read_other_object A (Random at o g) object list n = read_random A at o g object list

-- the place of an object in the order of first sight, after one more access
sight_other_from : (A : List Access) (a : Access) (object : ℕ) → object_of a ≢ object
    → position_from (nat_eq object) 0 (seen_objects (A ++ a ∷ [])) ≡ position_from (nat_eq object) 0 (seen_objects A)
sight_other_from A (Sorted at o g) object n =
    elim (cases_Bool (has o (seen_objects A))) [
      | inl t ↦ ap (position_from (nat_eq object) 0) (seen_objects_old A at o g (has_contains o (seen_objects A) t))
      | inr f ↦ ap (position_from (nat_eq object) 0) (seen_objects_new A at o g (has_not o (seen_objects A) f)) ∙ position_other object 0 o (seen_objects A) n
    ]
sight_other_from A (Random at o g) object n = ap (position_from (nat_eq object) 0) (seen_objects_random A at o g)

sight_here_from : (A : List Access) (at o g : ℕ)
    → position_from (nat_eq o) 0 (seen_objects (A ++ Sorted at o g ∷ [])) ≡ cond (is_none (position_from (nat_eq o) 0 (seen_objects A)))
    (Some (length (seen_objects A))) (position_from (nat_eq o) 0 (seen_objects A))
sight_here_from A at o g =
    elim (option_cases (position_from (nat_eq o) 0 (seen_objects A))) [
      | inl none ↦
          let f : has o (seen_objects A) ≡ false = position_not_has o (seen_objects A) none in
          ap (position_from (nat_eq o) 0) (seen_objects_new A at o g (has_not o (seen_objects A) f))
          ∙ position_new o 0 (seen_objects A) f ∙ ap Some (zero-add (length (seen_objects A)))
          ∙ sym (ap (λ p. cond (is_none p) (Some (length (seen_objects A))) p) none)
      | inr some ↦
          let r = position_found o 0 some.0 (seen_objects A) some.1 in
          ap (position_from (nat_eq o) 0) (seen_objects_old A at o g (slice_get_contains (seen_objects A) r.0 o r.2)) ∙ some.1
          ∙ sym (ap (λ p. cond (is_none p) (Some (length (seen_objects A))) p) some.1)
    ]
  where
    position_not_has : (x : ℕ) (xs : List ℕ) → position_from (nat_eq x) 0 xs ≡ None → has x xs ≡ false
    position_not_has x xs e = not_has x xs (λ c. position_there x 0 xs c e)

-- the place, as the search for it
place_is : (x : ℕ) (xs : List ℕ) → position (nat_eq x) xs ≡ position_from (nat_eq x) 0 xs
place_is x xs = position_from-zero (nat_eq x) xs

pub sight_other : (A : List Access) (a : Access) (object : ℕ) → object_of a ≢ object
    → position (nat_eq object) (seen_objects (A ++ a ∷ [])) ≡ position (nat_eq object) (seen_objects A)
sight_other A a object n = place_is object (seen_objects (A ++ a ∷ [])) ∙ sight_other_from A a object n ∙ sym (place_is object (seen_objects A))

sight_here : (A : List Access) (at o g : ℕ)
    → position (nat_eq o) (seen_objects (A ++ Sorted at o g ∷ [])) ≡ cond (is_none (position (nat_eq o) (seen_objects A))) (Some (length (seen_objects A)))
    (position (nat_eq o) (seen_objects A))
sight_here A at o g = place_is o (seen_objects (A ++ Sorted at o g ∷ [])) ∙ sight_here_from A at o g ∙ ap (λ p. cond (is_none p) (Some (length (seen_objects A))) p) (sym (place_is o (seen_objects A)))

-- a place that is found has the number, and none is found where it isn't there
pub placed : (x p : ℕ) (xs : List ℕ) → position (nat_eq x) xs ≡ Some p → slice_get xs p ≡ Some x
placed x p xs e =
    let r = position_found x 0 p xs (sym (place_is x xs) ∙ e) in
    let q : r.0 ≡ p = sym (r.1 ∙ zero-add r.0) in
    subst (λ k. slice_get xs k ≡ Some x) q r.2

pub not_placed : (x : ℕ) (xs : List ℕ) → position (nat_eq x) xs ≡ None → ¬ Contains xs x
not_placed x xs e = λ c. position_there x 0 xs c (sym (place_is x xs) ∙ e)

pub place_of_absent : (x : ℕ) (xs : List ℕ) → (¬ Contains xs x) → position (nat_eq x) xs ≡ None
place_of_absent x xs n = place_is x xs ∙ position_absent x 0 xs n

known_set : (m n : ℕ) (A : List Access) (a : Access) (kept : Record) → list_of a < length kept.known → SomeAgrees m n (A ++ a ∷ [])
    → IsRecordOf m A (object_of a) kept → (at : ℕ) → at < m
    → slice_index_or (slice_set kept.known (list_of a) (Some (grade_of a))) at None ≡ known_grade (A ++ a ∷ []) (object_of a) at
known_set m n A a kept l some h at k =
    elim (cases_eq (list_of a) at) [
      | inl same ↦ set_here (λ j. known_grade (A ++ a ∷ []) (object_of a) j) kept.known (list_of a) (Some (grade_of a)) None l (known_grade_given m n some.0 A a some.1) at same
      | inr other ↦ set_there kept.known (list_of a) (Some (grade_of a)) None at other ∙ h.known at k ∙ sym (known_grade_other_list A a (object_of a) at other)
    ]

-- the record after one more access of the object
pub record_sorted : (m n : ℕ) (A : List Access) (list object grade seen : ℕ) (kept : Record) → list < MAX_LISTS
    → SomeAgrees m n (A ++ Sorted list object grade ∷ []) → seen ≡ length (seen_objects A) → IsRecordOf m A object kept
    → IsRecordOf m (A ++ Sorted list object grade ∷ []) object (record { known = slice_set kept.known list (Some grade); read = slice_set kept.read list true; sight = cond (is_none kept.sight) (Some seen) kept.sight })
record_sorted m n A list object grade seen kept l some s h = record {
  sized = (length-set kept.known list (Some grade) ∙ h.sized.0, length-set kept.read list true ∙ h.sized.1);
  known = λ at k. known_set m n A (Sorted list object grade) kept (subst (λ w. list < w) (sym h.sized.0) l) some h at k;
  read = λ at k. elim (cases_eq list at) [
    | inl same ↦ set_here (λ j. is_read (A ++ Sorted list object grade ∷ []) object j) kept.read list true false (subst (λ w. list < w) (sym h.sized.1) l) (read_after A list object grade) at same
    | inr other ↦ set_there kept.read list true false at other ∙ h.read at k ∙ sym (read_other_list A (Sorted list object grade) object at other)
  ];
  sight = ap (λ p. cond (is_none p) (Some seen) p) h.sight ∙ ap (λ z. cond (is_none (position (nat_eq object) (seen_objects A))) (Some z) (position (nat_eq object) (seen_objects A))) s ∙ sym (sight_here A list object grade);
}

pub record_random : (m n : ℕ) (A : List Access) (list object grade : ℕ) (kept : Record) → list < MAX_LISTS
    → SomeAgrees m n (A ++ Random list object grade ∷ []) → IsRecordOf m A object kept
    → IsRecordOf m (A ++ Random list object grade ∷ []) object (record kept { known = slice_set kept.known list (Some grade) })
record_random m n A list object grade kept l some h = record {
  sized = (length-set kept.known list (Some grade) ∙ h.sized.0, h.sized.1);
  known = λ at k. known_set m n A (Random list object grade) kept (subst (λ w. list < w) (sym h.sized.0) l) some h at k;
  read = λ at k. h.read at k ∙ sym (read_random A list object grade object at);
  sight = h.sight ∙ sym (ap (position (nat_eq object)) (seen_objects_random A list object grade));
}

-- the record of another object stays
pub record_other : (m : ℕ) (A : List Access) (a : Access) (object : ℕ) (kept : Record) → object_of a ≢ object → IsRecordOf m A object kept
    → IsRecordOf m (A ++ a ∷ []) object kept
record_other m A a object kept n h = record {
  sized = h.sized;
  known = λ at k. h.known at k ∙ sym (known_grade_other_object A a object at n);
  read = λ at k. h.read at k ∙ sym (read_other_object A a object at n);
  sight = h.sight ∙ sym (sight_other A a object n);
}

-- an object that no access names was read in no list
pub unnamed_unread : (A : List Access) (object list : ℕ) → (¬ Contains (named_objects A) object) → is_read A object list ≡ false
unnamed_unread A object list n = not_has object (objects (sorted_rows list A)) (λ c.
    let from = contains_map_from (λ (row : Row). row.object) (sorted_rows list A) object c in
    n (subst (λ o. Contains (named_objects A) o) from.2 (given_named list A from.0 (sorted_given list A from.0 from.1))))

-- as the fields are written, by what the access is
pub record_then : (m n : ℕ) (A : List Access) (a : Access) (list grade seen : ℕ) (kept : Record) → is_sorted a ≡ true → list ≡ list_of a → grade ≡ grade_of a
    → list_of a < MAX_LISTS → SomeAgrees m n (A ++ a ∷ []) → seen ≡ length (seen_objects A) → IsRecordOf m A (object_of a) kept
    → IsRecordOf m (A ++ a ∷ []) (object_of a)
    (record { known = slice_set kept.known list (Some grade); read = slice_set kept.read list true; sight = cond (is_none kept.sight) (Some seen) kept.sight })
record_then m n A (Sorted at o g) list grade seen kept t e f l some s h =
    subst (λ k. IsRecordOf m (A ++ Sorted at o g ∷ []) o (record { known = slice_set kept.known k (Some grade); read = slice_set kept.read k true; sight = cond (is_none kept.sight) (Some seen) kept.sight })) (sym e)
    (subst (λ k. IsRecordOf m (A ++ Sorted at o g ∷ []) o (record { known = slice_set kept.known at (Some k); read = slice_set kept.read at true; sight = cond (is_none kept.sight) (Some seen) kept.sight })) (sym f)
    (record_sorted m n A at o g seen kept l some s h))
record_then m n A (Random at o g) list grade seen kept t e f l some s h = absurd (true≢false (sym t))

pub record_else : (m n : ℕ) (A : List Access) (a : Access) (list grade : ℕ) (kept : Record) → is_sorted a ≡ false → list ≡ list_of a → grade ≡ grade_of a
    → list_of a < MAX_LISTS → SomeAgrees m n (A ++ a ∷ []) → IsRecordOf m A (object_of a) kept
    → IsRecordOf m (A ++ a ∷ []) (object_of a) (record kept { known = slice_set kept.known list (Some grade) })
record_else m n A (Sorted at o g) list grade kept t e f l some h = absurd (true≢false t)
record_else m n A (Random at o g) list grade kept t e f l some h =
    subst (λ k. IsRecordOf m (A ++ Random at o g ∷ []) o (record kept { known = slice_set kept.known k (Some grade) })) (sym e)
    (subst (λ k. IsRecordOf m (A ++ Random at o g ∷ []) o (record kept { known = slice_set kept.known at (Some k) })) (sym f)
    (record_random m n A at o g kept l some h))
