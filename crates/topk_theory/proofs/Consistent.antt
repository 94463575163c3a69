-- The eight kinds: where one holds no table agrees with the longer transcript, and where none does one is built.
use Rattle.std.proofs.Common.{◌≡◌, ◌≢◌, ℕ, zero, suc, ◌+◌, ◌-◌, ◌<◌, ◌≤◌, inl, inr, not, List, [], ◌∷◌, ◌++◌, length, map, take, All, AllPairs, Contains, refl, sym, ap, subst, subst₂, ◌∙◌, arith, min, length-append, length-take, append_assoc, append-nil}
use Rattle.std.specs.List.{range_with_len, slice_index_or}
use Rattle.std.proofs.lemmas.Bool.{cases_Bool, not-true}
use Rattle.std.proofs.lemmas.List.FromFn.{length-range_with_len, get_or-range_with_len}
use Rattle.std.proofs.lemmas.List.Elements.{Contains-append_left, Contains-append_right, Contains-append_cases, Contains-push, Contains-push_cases}
use Rattle.std.proofs.lemmas.List.Kept.{AllPairs-cons, AllPairs-filter}
use Rattle.ranked_list.specs.declared.row.Row.{Row}
use Rattle.ranked_list.specs.Table.{objects, top_grade}
use Rattle.topk_theory.specs.declared.access.Access.{Access}
use Rattle.topk_theory.specs.declared.access.Access.TheVariants.{Sorted, Random}
use Rattle.topk_theory.specs.Aggregate.{objects_of}
use Rattle.topk_theory.specs.Transcript.{Agrees, list_of, object_of, sorted_rows, random_rows, named_objects, bottom_of, last_grade}
use Rattle.topk_theory.specs.Fixes.{IsObjectSet}
use Rattle.topk_theory.specs.Consistent.{Kind, IsOfKind, SomeAgrees, HasNoFault}
use Rattle.topk_theory.specs.Adversary.{completed, unnamed, object_set}
use Rattle.topk_theory.specs.Consistent.Kind.{no_such_list, above_top, too_many_objects, rises, repeats, clashes, falls_short, above_bottom}
use Rattle.topk_theory.proofs.AgreementLists.{contains_here, contains_there, contains_map_from, all_from_members, member_of_all, distinct_fits, distinct_head, distinct_tail, take_within}
use Rattle.topk_theory.proofs.AgreementNames.{has, has_contains, has_not, each_once_within}
use Rattle.topk_theory.proofs.AgreementRows.{object_of_row}
use Rattle.topk_theory.proofs.Agreement.{agrees_front, named_distinct, named_objects_new, contains_middle, sorted_rows_sorted, sorted_rows_random, random_rows_random, random_rows_sorted, bottom_of_sorted}
use Rattle.topk_theory.proofs.ListNumbers.{number_below}
use Rattle.topk_theory.proofs.ConsistentRows.{AreCoherent, ranked_capped, behind_below_last, ranked_parts_apart, filter_has, filter_from}
use Rattle.topk_theory.proofs.ConsistentTable.{IsCoherent, coherent_none, coherent_push, agrees_coherent, given_split, MayComplete, completed_agrees, completed_objects}

-- where the longer transcript is coherent its last access is of no kind
free_sorted : (m n : ℕ) (A : List Access) (list object grade : ℕ) → IsCoherent m n (A ++ Sorted list object grade ∷ [])
    → AreCoherent (sorted_rows list A ++ record { object = object; grade = grade } ∷ []) (random_rows list A) → (kind : Kind)
    → ¬ IsOfKind m n A (Sorted list object grade) kind
free_sorted m n A list object grade h c no_such_list = λ k.
    let l : list < m = member_of_all (λ access. list_of access < m) _ (Sorted list object grade) h.in_range (contains_middle A (Sorted list object grade) []) in omega arith
free_sorted m n A list object grade h c above_top = λ k.
    let l : grade ≤ top_grade = ranked_capped _ (record { object = object; grade = grade }) c.ranked (Contains-push (sorted_rows list A) (record { object = object; grade = grade })) in omega arith
free_sorted m n A list object grade h c too_many_objects = λ k.
    let e : length (named_objects (A ++ Sorted list object grade ∷ [])) ≡ length (named_objects A ++ object ∷ []) = ap length (named_objects_new A (Sorted list object grade) k.1) in
    let f : length (named_objects (A ++ Sorted list object grade ∷ [])) ≤ n = h.fits in
    let full : n ≤ length (named_objects A) = k.0 in
    omega (arith, length-append (named_objects A) (object ∷ []))
free_sorted m n A list object grade h c rises = λ k.
    let row : Row = record { object = object; grade = grade } in
    let l : grade ≤ bottom_of list A = behind_below_last (sorted_rows list A) (row ∷ []) row c.ranked (contains_here row []) in omega arith
free_sorted m n A list object grade h c repeats = λ k.
    let row : Row = record { object = object; grade = grade } in
    let from = contains_map_from (λ (z : Row). z.object) (sorted_rows list A) object k in
    ranked_parts_apart (sorted_rows list A) (row ∷ []) from.0 row c.ranked from.1 (contains_here row []) from.2
free_sorted m n A list object grade h c clashes = λ k.
    k.2 (c.same_read (record { object = object; grade = k.0 }) (record { object = object; grade = grade }) k.1 (Contains-push (sorted_rows list A) (record { object = object; grade = grade })) refl)
free_sorted m n A list object grade h c falls_short = λ k.
    let row : Row = record { object = object; grade = grade } in
    let last : last_grade top_grade (sorted_rows list A ++ row ∷ []) ≡ grade = ap (last_grade top_grade) (sym (sorted_rows_sorted list A object grade)) ∙ bottom_of_sorted list A object grade in
    let low : k.0.grade ≤ last_grade top_grade (sorted_rows list A ++ row ∷ []) = c.below k.0 k.1 (λ d.
    let from = contains_map_from (λ (z : Row). z.object) (sorted_rows list A ++ row ∷ []) k.0.object d in
    elim (Contains-push_cases (sorted_rows list A) row from.0 from.1) [
      | inl t ↦ k.3 (subst (λ o. Contains (objects (sorted_rows list A)) o) from.2 (object_of_row (sorted_rows list A) from.0 t))
      | inr e ↦ k.2 (sym from.2 ∙ sym (ap (λ (z : Row). z.object) e))
    ]) in
    let above : grade < k.0.grade = k.4 in
    omega arith
free_sorted m n A list object grade h c above_bottom = λ k. k

free_random : (m n : ℕ) (A : List Access) (list object grade : ℕ) → IsCoherent m n (A ++ Random list object grade ∷ [])
    → AreCoherent (sorted_rows list A) (random_rows list A ++ record { object = object; grade = grade } ∷ []) → (kind : Kind)
    → ¬ IsOfKind m n A (Random list object grade) kind
free_random m n A list object grade h c no_such_list = λ k.
    let l : list < m = member_of_all (λ access. list_of access < m) _ (Random list object grade) h.in_range (contains_middle A (Random list object grade) []) in omega arith
free_random m n A list object grade h c above_top = λ k.
    let l : grade ≤ top_grade = c.capped (record { object = object; grade = grade }) (Contains-push (random_rows list A) (record { object = object; grade = grade })) in omega arith
free_random m n A list object grade h c too_many_objects = λ k.
    let e : length (named_objects (A ++ Random list object grade ∷ [])) ≡ length (named_objects A ++ object ∷ []) = ap length (named_objects_new A (Random list object grade) k.1) in
    let f : length (named_objects (A ++ Random list object grade ∷ [])) ≤ n = h.fits in
    let full : n ≤ length (named_objects A) = k.0 in
    omega (arith, length-append (named_objects A) (object ∷ []))
free_random m n A list object grade h c rises = λ k. k
free_random m n A list object grade h c repeats = λ k. k
free_random m n A list object grade h c clashes = λ k.
    let row : Row = record { object = object; grade = grade } in
    let other : Row = record { object = object; grade = k.0 } in
    k.2 (elim (given_split list A other k.1) [
      | inl s ↦ sym (c.same_read row other (Contains-push (random_rows list A) row) s refl)
      | inr r ↦ c.same_looked other row (Contains-append_left (random_rows list A) (row ∷ []) other r) (Contains-push (random_rows list A) row) refl
    ])
free_random m n A list object grade h c falls_short = λ k. k
free_random m n A list object grade h c above_bottom = λ k.
    let row : Row = record { object = object; grade = grade } in
    let low : grade ≤ bottom_of list A = c.below row (Contains-push (random_rows list A) row) k.0 in
    let above : bottom_of list A < grade = k.1 in
    omega arith

pub coherent_free : (m n : ℕ) (A : List Access) (a : Access) → IsCoherent m n (A ++ a ∷ []) → (kind : Kind) → ¬ IsOfKind m n A a kind
coherent_free m n A (Sorted list object grade) h =
    free_sorted m n A list object grade h
    (subst₂ AreCoherent (sorted_rows_sorted list A object grade) (random_rows_sorted list list A object grade)
    (h.each list (member_of_all (λ access. list_of access < m) _ (Sorted list object grade) h.in_range (contains_middle A (Sorted list object grade) []))))
coherent_free m n A (Random list object grade) h =
    free_random m n A list object grade h
    (subst₂ AreCoherent (sorted_rows_random list list A object grade) (random_rows_random list A object grade)
    (h.each list (member_of_all (λ access. list_of access < m) _ (Random list object grade) h.in_range (contains_middle A (Random list object grade) []))))

-- each kind excludes every table
pub kind_excludes : (m n : ℕ) (A : List Access) (a : Access) (kind : Kind) → IsOfKind m n A a kind → (D : List (List Row)) → ¬ Agrees m n D (A ++ a ∷ [])
kind_excludes m n A a kind k D = λ h. coherent_free m n A a (agrees_coherent m n D (A ++ a ∷ []) h) kind k

-- n objects, those that are named first and then the least others
distinct_append : (xs ys : List ℕ) → AllPairs (λ (x : ℕ) (y : ℕ). x ≢ y) xs → AllPairs (λ (x : ℕ) (y : ℕ). x ≢ y) ys
    → ((x : ℕ) → Contains xs x → ¬ Contains ys x) → AllPairs (λ (x : ℕ) (y : ℕ). x ≢ y) (xs ++ ys)
distinct_append [] ys d e apart = e
distinct_append (x ∷ xs) ys d e apart =
    AllPairs-cons (λ (a : ℕ) (b : ℕ). a ≢ b) x (xs ++ ys)
    (all_from_members (λ y. x ≢ y) (xs ++ ys) (λ y c. elim (Contains-append_cases xs ys y c) [
      | inl t ↦ distinct_head x xs y d t
      | inr t ↦ λ same. apart x (contains_here x xs) (subst (λ z. Contains ys z) (sym same) t)
    ]))
    (distinct_append xs ys (distinct_tail x xs d) e (λ z c. apart z (contains_there x xs z c)))

distinct_take : (k : ℕ) (xs : List ℕ) → AllPairs (λ (x : ℕ) (y : ℕ). x ≢ y) xs → AllPairs (λ (x : ℕ) (y : ℕ). x ≢ y) (take k xs)
distinct_take zero xs d = λ i j e l m. absurd (omega arith)
distinct_take (suc k) [] d = λ i j e l m. absurd (omega arith)
distinct_take (suc k) (x ∷ xs) d =
    AllPairs-cons (λ (a : ℕ) (b : ℕ). a ≢ b) x (take k xs)
    (all_from_members (λ y. x ≢ y) (take k xs) (λ y c. distinct_head x xs y d (take_within k xs y c)))
    (distinct_take k xs (distinct_tail x xs d))

pub range_distinct : (n : ℕ) → AllPairs (λ (x : ℕ) (y : ℕ). x ≢ y) (range_with_len 0 n)
range_distinct n = λ i j d l m.
    let size : length (range_with_len 0 n) ≡ n = length-range_with_len 0 n in
    let a : slice_index_or (range_with_len 0 n) i d ≡ 0 + i = get_or-range_with_len 0 n i d (omega arith) in
    let b : slice_index_or (range_with_len 0 n) j d ≡ 0 + j = get_or-range_with_len 0 n j d (omega arith) in
    omega arith

unnamed_many : (n : ℕ) (names : List ℕ) → n ≤ length names + length (unnamed n names)
unnamed_many n names =
    let size : length (range_with_len 0 n) ≡ n = length-range_with_len 0 n in
    let fits : length (range_with_len 0 n) ≤ length (names ++ unnamed n names) =
    distinct_fits (range_with_len 0 n) (names ++ unnamed n names) (range_distinct n) (λ x c. elim (cases_Bool (has x names)) [
      | inl t ↦ Contains-append_left names (unnamed n names) x (has_contains x names t)
      | inr f ↦ Contains-append_right names (unnamed n names) x (filter_has (λ o. not (has o names)) (range_with_len 0 n) x c (ap not f))
    ]) in
    omega (arith, length-append names (unnamed n names))

pub object_set_is : (n : ℕ) (names : List ℕ) → AllPairs (λ (x : ℕ) (y : ℕ). x ≢ y) names → length names ≤ n → IsObjectSet n (object_set n names)
object_set_is n names d l = record {
  sized = let many = unnamed_many n names in
      let taken : length (take (n - length names) (unnamed n names)) ≡ min (n - length names) (length (unnamed n names)) = length-take (n - length names) (unnamed n names) in
      omega (arith, length-append names (take (n - length names) (unnamed n names)));
  distinct = distinct_append names (take (n - length names) (unnamed n names)) d
      (distinct_take (n - length names) (unnamed n names) (AllPairs-filter (λ (x : ℕ) (y : ℕ). x ≢ y) (λ o. not (has o names)) (range_with_len 0 n) (range_distinct n)))
      (λ x c t. has_not x names (not-true (has x names) (filter_from (λ o. not (has o names)) (range_with_len 0 n) x (take_within (n - length names) (unnamed n names) x t)).1) c);
}

pub object_set_below : (n bound : ℕ) (names : List ℕ) (x : ℕ) → n ≤ bound → ((o : ℕ) → Contains names o → o < bound) → Contains (object_set n names) x
    → x < bound
object_set_below n bound names x l below c =
    elim (Contains-append_cases names (take (n - length names) (unnamed n names)) x c) [
      | inl t ↦ below x t
      | inr t ↦ let r : x < n = number_below n x (filter_from (λ o. not (has o names)) (range_with_len 0 n) x (take_within (n - length names) (unnamed n names) x t)).0 in omega arith
    ]

-- the table that is built: the rows that were read, and then the other objects with their known grades or the list's bottom
bottoms_fit : (m n : ℕ) (A : List Access) → IsCoherent m n A → MayComplete (λ list object. bottom_of list A) (object_set n (named_objects A)) m n A
bottoms_fit m n A h = record {
  coherent = h;
  over = object_set_is n (named_objects A) (named_distinct A) h.fits;
  named = λ object c. Contains-append_left (named_objects A) _ object c;
  low = λ list object. omega arith;
}

pub coherent_agrees : (m n : ℕ) (A : List Access) → IsCoherent m n A → SomeAgrees m n A
coherent_agrees m n A h = (completed (λ list object. bottom_of list A) (object_set n (named_objects A)) m A, completed_agrees (λ list object. bottom_of list A) (object_set n (named_objects A)) m n A (bottoms_fit m n A h))

pub coherent_agrees_below : (m n bound : ℕ) (A : List Access) → IsCoherent m n A → n ≤ bound → All (λ access. object_of access < bound) A
    → (D : List (List Row)) × Agrees m n D A × All (λ object. object < bound) (objects_of D)
coherent_agrees_below m n bound A h l below =
    let D = completed (λ list object. bottom_of list A) (object_set n (named_objects A)) m A in (
      D,
      completed_agrees (λ list object. bottom_of list A) (object_set n (named_objects A)) m n A (bottoms_fit m n A h),
      all_from_members (λ object. object < bound) (objects_of D) (λ x c.
          object_set_below n bound (named_objects A) x l
          (λ o d. let from = contains_map_from object_of A o (each_once_within (map object_of A) o d) in subst (λ z. z < bound) from.2 (member_of_all (λ access. object_of access < bound) A from.0 below from.1))
          (completed_objects (λ list object. bottom_of list A) (object_set n (named_objects A)) m n A x (bottoms_fit m n A h) c)),
    )

-- one more access of no kind: some table agrees with the longer transcript
pub no_kind_agrees : (m n : ℕ) (A : List Access) (a : Access) → SomeAgrees m n A → ((kind : Kind) → ¬ IsOfKind m n A a kind) → SomeAgrees m n (A ++ a ∷ [])
no_kind_agrees m n A a some free = coherent_agrees m n (A ++ a ∷ []) (coherent_push m n A a (agrees_coherent m n some.0 A some.1) free)

pub no_kind_agrees_below : (m n bound : ℕ) (A : List Access) (a : Access) → SomeAgrees m n A → ((kind : Kind) → ¬ IsOfKind m n A a kind) → n ≤ bound
    → All (λ access. object_of access < bound) (A ++ a ∷ [])
    → (D : List (List Row)) × Agrees m n D (A ++ a ∷ []) × All (λ object. object < bound) (objects_of D)
no_kind_agrees_below m n bound A a some free = coherent_agrees_below m n bound (A ++ a ∷ []) (coherent_push m n A a (agrees_coherent m n some.0 A some.1) free)

-- a whole transcript: some table agrees exactly where no access is of any kind against those before it
coherent_along : (m n : ℕ) (A B : List Access) → IsCoherent m n A → HasNoFault m n (A ++ B) → IsCoherent m n (A ++ B)
coherent_along m n A [] h free = subst (λ C. IsCoherent m n C) (sym (append-nil A)) h
coherent_along m n A (b ∷ B) h free =
    let e : (A ++ b ∷ []) ++ B ≡ A ++ b ∷ B = append_assoc A (b ∷ []) B in
    subst (λ C. IsCoherent m n C) e
    (coherent_along m n (A ++ b ∷ []) B (coherent_push m n A b h (free A B b refl)) (subst (λ C. HasNoFault m n C) (sym e) free))

pub no_fault_agrees : (m n : ℕ) (A : List Access) → HasNoFault m n A → SomeAgrees m n A
no_fault_agrees m n A free = coherent_agrees m n A (coherent_along m n [] A (coherent_none m n) free)

pub agrees_no_fault : (m n : ℕ) (A : List Access) → SomeAgrees m n A → HasNoFault m n A
agrees_no_fault m n A some earlier later access e kind = λ k.
    kind_excludes m n earlier access kind k some.0
    (agrees_front m n some.0 (earlier ++ access ∷ []) later (subst (λ B. Agrees m n some.0 B) (e ∙ sym (append_assoc earlier (access ∷ []) later)) some.1))

-- the empty transcript
pub empty_agrees : (m n : ℕ) → SomeAgrees m n []
empty_agrees m n = coherent_agrees m n [] (coherent_none m n)
