-- What agrees with a transcript: the lemmas that carry nearly all uses.
use Rattle.std.proofs.Common.{◌≡◌, ◌≢◌, ℕ, ◌+◌, ◌<◌, ◌≤◌, inl, inr, cond, ◌==◌, List, [], ◌∷◌, ◌++◌, length, map, drop, All, AllPairs, Contains, Option, Some, None, slice_index_or, filter_map, refl, sym, ap, subst, ◌∙◌, arith, eqb-true, eq-eqb, ne_eqb, length-append}
use Rattle.std.specs.List.{cons_option}
use Rattle.std.proofs.lemmas.Bool.{cases_Bool, cond-true, cond-false, cases_lt, cases_eq}
use Rattle.std.proofs.lemmas.List.{map-append, length_push, length-map, get_or_past}
use Rattle.std.proofs.lemmas.List.Elements.{filter_map-append, Contains-append_left, Contains-append_right, All-push}
use Rattle.ranked_list.specs.declared.row.Row.{Row}
use Rattle.ranked_list.specs.Table.{IsTable, grade_in, top_grade}
use Rattle.ranked_list.proofs.OptionLaws.{option_cases}
use Rattle.topk_theory.specs.declared.access.Access.{Access}
use Rattle.topk_theory.specs.declared.access.Access.TheVariants.{Sorted, Random}
use Rattle.topk_theory.specs.Aggregate.{objects_of}
use Rattle.topk_theory.specs.Transcript.{Told, whole, IsDrawn, Grows, each_once, Agrees, Begins, Gives, list_at, list_of, object_of, grade_of, sorted_row, random_row, given_row, sorted_rows, random_rows, given_rows, sorted_object, named_objects, seen_objects, depth_of, bottom_of, last_grade}
use Rattle.topk_theory.specs.Bounds.{known_grade, grade_among}
use Rattle.topk_theory.proofs.AgreementLists.{contains_nil, contains_here, contains_there, contains_cases, contains_map, contains_map_from, all_from_members, member_of_all, slice_get_contains, slice_get_in_range, slice_get_reads, begins_splits, begins_front, begins_reads, begins_more, begins_get, begins_trans, filter_map_push_some, filter_map_push_none, filter_map_through, distinct_fits}
use Rattle.topk_theory.proofs.AgreementNames.{each_once_within, each_once_complete, each_once_distinct, each_once_push_old, each_once_push_new}
use Rattle.topk_theory.proofs.AgreementRows.{grade_in_row, object_of_row, grade_among_row, grade_among_append_some, grade_among_append_none, objects_distinct, list_at_ranked, list_at_length, objects_from_each}

-- one more access: the rows of its list, and of the others
same_list : (list : ℕ) (row : Row) → cond (list == list) (Some row) None ≡ Some row
same_list list row = cond-true {A = Option Row} (list == list) (Some row) None (eq-eqb list list refl)

other_list : (other list : ℕ) (row : Row) → other ≢ list → cond (other == list) (Some row) None ≡ None
other_list other list row n = cond-false {A = Option Row} (other == list) (Some row) None (ne_eqb other list n)

pub sorted_rows_sorted : (list : ℕ) (A : List Access) (object grade : ℕ)
    → sorted_rows list (A ++ Sorted list object grade ∷ []) ≡ sorted_rows list A ++ record { object = object; grade = grade } ∷ []
sorted_rows_sorted list A object grade = filter_map_push_some (sorted_row list) A (Sorted list object grade) _ (same_list list (record { object = object; grade = grade }))

pub sorted_rows_other : (list other : ℕ) (A : List Access) (object grade : ℕ) → other ≢ list
    → sorted_rows list (A ++ Sorted other object grade ∷ []) ≡ sorted_rows list A
sorted_rows_other list other A object grade n = filter_map_push_none (sorted_row list) A (Sorted other object grade) (other_list other list (record { object = object; grade = grade }) n)

pub sorted_rows_random : (list other : ℕ) (A : List Access) (object grade : ℕ) → sorted_rows list (A ++ Random other object grade ∷ []) ≡ sorted_rows list A
sorted_rows_random list other A object grade = filter_map_push_none (sorted_row list) A (Random other object grade) refl

pub random_rows_random : (list : ℕ) (A : List Access) (object grade : ℕ)
    → random_rows list (A ++ Random list object grade ∷ []) ≡ random_rows list A ++ record { object = object; grade = grade } ∷ []
random_rows_random list A object grade = filter_map_push_some (random_row list) A (Random list object grade) _ (same_list list (record { object = object; grade = grade }))

pub random_rows_other : (list other : ℕ) (A : List Access) (object grade : ℕ) → other ≢ list
    → random_rows list (A ++ Random other object grade ∷ []) ≡ random_rows list A
random_rows_other list other A object grade n = filter_map_push_none (random_row list) A (Random other object grade) (other_list other list (record { object = object; grade = grade }) n)

pub random_rows_sorted : (list other : ℕ) (A : List Access) (object grade : ℕ) → random_rows list (A ++ Sorted other object grade ∷ []) ≡ random_rows list A
random_rows_sorted list other A object grade = filter_map_push_none (random_row list) A (Sorted other object grade) refl

-- the row that an access gave
abbrev pub row_of : Access → Row
row_of a = record { object = object_of a; grade = grade_of a }

pub given_rows_same : (A : List Access) (a : Access) → given_rows (list_of a) (A ++ a ∷ []) ≡ given_rows (list_of a) A ++ row_of a ∷ []
given_rows_same A a = filter_map_push_some (given_row (list_of a)) A a (row_of a) (same_list (list_of a) (row_of a))

pub given_rows_other : (list : ℕ) (A : List Access) (a : Access) → list_of a ≢ list → given_rows list (A ++ a ∷ []) ≡ given_rows list A
given_rows_other list A a n = filter_map_push_none (given_row list) A a (other_list (list_of a) list (row_of a) n)

-- one more access: depths and bottoms
pub depth_of_sorted : (list : ℕ) (A : List Access) (object grade : ℕ) → depth_of list (A ++ Sorted list object grade ∷ []) ≡ depth_of list A + 1
depth_of_sorted list A object grade = ap (length {A = Row}) (sorted_rows_sorted list A object grade) ∙ length_push (sorted_rows list A) (record { object = object; grade = grade })

pub depth_of_other : (list other : ℕ) (A : List Access) (object grade : ℕ) → other ≢ list
    → depth_of list (A ++ Sorted other object grade ∷ []) ≡ depth_of list A
depth_of_other list other A object grade n = ap (length {A = Row}) (sorted_rows_other list other A object grade n)

pub depth_of_random : (list other : ℕ) (A : List Access) (object grade : ℕ) → depth_of list (A ++ Random other object grade ∷ []) ≡ depth_of list A
depth_of_random list other A object grade = ap (length {A = Row}) (sorted_rows_random list other A object grade)

last_grade_push : (above : ℕ) (rows : List Row) (row : Row) → last_grade above (rows ++ row ∷ []) ≡ row.grade
last_grade_push above [] row = refl
last_grade_push above (r ∷ rows) row = last_grade_push r.grade rows row

pub bottom_of_sorted : (list : ℕ) (A : List Access) (object grade : ℕ) → bottom_of list (A ++ Sorted list object grade ∷ []) ≡ grade
bottom_of_sorted list A object grade = ap (last_grade top_grade) (sorted_rows_sorted list A object grade) ∙ last_grade_push top_grade (sorted_rows list A) (record { object = object; grade = grade })

pub bottom_of_other : (list other : ℕ) (A : List Access) (object grade : ℕ) → other ≢ list
    → bottom_of list (A ++ Sorted other object grade ∷ []) ≡ bottom_of list A
bottom_of_other list other A object grade n = ap (last_grade top_grade) (sorted_rows_other list other A object grade n)

pub bottom_of_random : (list other : ℕ) (A : List Access) (object grade : ℕ) → bottom_of list (A ++ Random other object grade ∷ []) ≡ bottom_of list A
bottom_of_random list other A object grade = ap (last_grade top_grade) (sorted_rows_random list other A object grade)

-- one more access: the objects
pub named_objects_old : (A : List Access) (a : Access) → Contains (named_objects A) (object_of a) → named_objects (A ++ a ∷ []) ≡ named_objects A
named_objects_old A a h = ap each_once (map-append object_of A (a ∷ [])) ∙ each_once_push_old (map object_of A) (object_of a) h

pub named_objects_new : (A : List Access) (a : Access) → (¬ Contains (named_objects A) (object_of a))
    → named_objects (A ++ a ∷ []) ≡ named_objects A ++ object_of a ∷ []
named_objects_new A a n = ap each_once (map-append object_of A (a ∷ [])) ∙ each_once_push_new (map object_of A) (object_of a) n

pub seen_objects_old : (A : List Access) (list object grade : ℕ) → Contains (seen_objects A) object
    → seen_objects (A ++ Sorted list object grade ∷ []) ≡ seen_objects A
seen_objects_old A list object grade h = ap each_once (filter_map_push_some sorted_object A (Sorted list object grade) object refl) ∙ each_once_push_old (filter_map sorted_object A) object h

pub seen_objects_new : (A : List Access) (list object grade : ℕ) → (¬ Contains (seen_objects A) object)
    → seen_objects (A ++ Sorted list object grade ∷ []) ≡ seen_objects A ++ object ∷ []
seen_objects_new A list object grade n = ap each_once (filter_map_push_some sorted_object A (Sorted list object grade) object refl) ∙ each_once_push_new (filter_map sorted_object A) object n

pub seen_objects_random : (A : List Access) (list object grade : ℕ) → seen_objects (A ++ Random list object grade ∷ []) ≡ seen_objects A
seen_objects_random A list object grade = ap each_once (filter_map_push_none sorted_object A (Random list object grade) refl)

-- the first accesses of a transcript gave the first rows
pub sorted_rows_append : (list : ℕ) (A B : List Access) → sorted_rows list (A ++ B) ≡ sorted_rows list A ++ sorted_rows list B
sorted_rows_append list A B = filter_map-append (sorted_row list) A B

pub random_rows_append : (list : ℕ) (A B : List Access) → random_rows list (A ++ B) ≡ random_rows list A ++ random_rows list B
random_rows_append list A B = filter_map-append (random_row list) A B

pub given_rows_append : (list : ℕ) (A B : List Access) → given_rows list (A ++ B) ≡ given_rows list A ++ given_rows list B
given_rows_append list A B = filter_map-append (given_row list) A B

-- what is drawn from lists, of which more is told, is drawn from these
pub drawn_more : (m : ℕ) (T U : Told) (A : List Access) → Grows m T U → IsDrawn m T A → IsDrawn m U A
drawn_more m T U A grows h = record {
  in_range = h.in_range;
  sorted = λ list l. begins_trans (sorted_rows list A) (list_at T.rows list) (list_at U.rows list) (h.sorted list l) (grows.rows list l);
  random = λ list l. all_from_members (Contains (list_at U.known list)) (random_rows list A)
      (λ row c. grows.known list l row (member_of_all (Contains (list_at T.known list)) (random_rows list A) row (h.random list l) c));
}

pub gives_more : (m : ℕ) (T U : Told) (A : List Access) (a : Access) → Grows m T U → list_of a < m → Gives T A a → Gives U A a
gives_more m T U A (Sorted list object grade) grows l g = begins_get (list_at T.rows list) (list_at U.rows list) (depth_of list A) _ (grows.rows list l) g
gives_more m T U A (Random list object grade) grows l g = grows.known list l _ g

-- each front of what is drawn is drawn
pub drawn_front : (m : ℕ) (T : Told) (A B : List Access) → IsDrawn m T (A ++ B) → IsDrawn m T A
drawn_front m T A B h = record {
  in_range = all_from_members (λ access. list_of access < m) A (λ a c. member_of_all (λ access. list_of access < m) (A ++ B) a h.in_range (Contains-append_left A B a c));
  sorted = λ list l. begins_front (sorted_rows list A) (sorted_rows list B) (list_at T.rows list) (subst (λ rows. Begins rows (list_at T.rows list)) (sorted_rows_append list A B) (h.sorted list l));
  random = λ list l. all_from_members (Contains (list_at T.known list)) (random_rows list A) (λ row c.
      member_of_all (Contains (list_at T.known list)) (random_rows list (A ++ B)) row (h.random list l)
      (subst (λ rows. Contains rows row) (sym (random_rows_append list A B)) (Contains-append_left (random_rows list A) (random_rows list B) row c)));
}

pub contains_middle : {X : Type 0} → (xs : List X) (y : X) (ys : List X) → Contains (xs ++ y ∷ ys) y
contains_middle xs y ys = Contains-append_right xs (y ∷ ys) y (contains_here y ys)

-- each access that is drawn reads one of the m lists, and is given after those before it
pub drawn_in_range : (m : ℕ) (T : Told) (A : List Access) (a : Access) → IsDrawn m T A → Contains A a → list_of a < m
drawn_in_range m T A a h c = member_of_all (λ access. list_of access < m) A a h.in_range c

pub drawn_gives : (m : ℕ) (T : Told) (A : List Access) (a : Access) (B : List Access) → IsDrawn m T (A ++ a ∷ B) → Gives T A a
drawn_gives m T A (Sorted list object grade) B h =
    let row : Row = record { object = object; grade = grade } in
    let rest : List Row = filter_map (sorted_row list) B in
    let e : sorted_rows list (A ++ Sorted list object grade ∷ B) ≡ sorted_rows list A ++ row ∷ rest =
    filter_map_through (sorted_row list) A (Sorted list object grade) B ∙ ap (λ o. sorted_rows list A ++ cons_option o rest) (same_list list row) in
    begins_reads (sorted_rows list A) row rest (list_at T.rows list)
    (subst (λ rows. Begins rows (list_at T.rows list)) e (h.sorted list (drawn_in_range m T _ _ h (contains_middle A (Sorted list object grade) B))))
drawn_gives m T A (Random list object grade) B h =
    let row : Row = record { object = object; grade = grade } in
    let rest : List Row = filter_map (random_row list) B in
    let e : random_rows list (A ++ Random list object grade ∷ B) ≡ random_rows list A ++ row ∷ rest =
    filter_map_through (random_row list) A (Random list object grade) B ∙ ap (λ o. random_rows list A ++ cons_option o rest) (same_list list row) in
    member_of_all (Contains (list_at T.known list)) (random_rows list (A ++ Random list object grade ∷ B)) row
    (h.random list (drawn_in_range m T _ _ h (contains_middle A (Random list object grade) B)))
    (subst (λ rows. Contains rows row) (sym e) (contains_middle (random_rows list A) row rest))

-- one more access that is given is drawn too
drawn_sorted : (m : ℕ) (T : Told) (A : List Access) (list object grade : ℕ) → IsDrawn m T A → Gives T A (Sorted list object grade) → (at : ℕ) → at < m
    → Begins (sorted_rows at (A ++ Sorted list object grade ∷ [])) (list_at T.rows at)
drawn_sorted m T A list object grade h g at l =
    elim (cases_eq list at) [
      | inl e ↦ subst (λ k. Begins (sorted_rows k (A ++ Sorted list object grade ∷ [])) (list_at T.rows k)) e
          (subst (λ rows. Begins rows (list_at T.rows list)) (sym (sorted_rows_sorted list A object grade))
          (begins_more (sorted_rows list A) (list_at T.rows list) _ (h.sorted list (subst (λ k. k < m) (sym e) l)) g))
      | inr n ↦ subst (λ rows. Begins rows (list_at T.rows at)) (sym (sorted_rows_other at list A object grade n)) (h.sorted at l)
    ]

drawn_random : (m : ℕ) (T : Told) (A : List Access) (list object grade : ℕ) → IsDrawn m T A → Gives T A (Random list object grade) → (at : ℕ) → at < m
    → All (Contains (list_at T.known at)) (random_rows at (A ++ Random list object grade ∷ []))
drawn_random m T A list object grade h g at l =
    elim (cases_eq list at) [
      | inl e ↦ subst (λ k. All (Contains (list_at T.known k)) (random_rows k (A ++ Random list object grade ∷ []))) e
          (subst (λ rows. All (Contains (list_at T.known list)) rows) (sym (random_rows_random list A object grade))
          (All-push (Contains (list_at T.known list)) (random_rows list A) _ (h.random list (subst (λ k. k < m) (sym e) l)) g))
      | inr n ↦ subst (λ rows. All (Contains (list_at T.known at)) rows) (sym (random_rows_other at list A object grade n)) (h.random at l)
    ]

pub drawn_push : (m : ℕ) (T : Told) (A : List Access) (a : Access) → IsDrawn m T A → list_of a < m → Gives T A a → IsDrawn m T (A ++ a ∷ [])
drawn_push m T A (Sorted list object grade) h l g = record {
  in_range = All-push (λ access. list_of access < m) A (Sorted list object grade) h.in_range l;
  sorted = drawn_sorted m T A list object grade h g;
  random = λ at k. subst (λ rows. All (Contains (list_at T.known at)) rows) (sym (random_rows_sorted at list A object grade)) (h.random at k);
}
drawn_push m T A (Random list object grade) h l g = record {
  in_range = All-push (λ access. list_of access < m) A (Random list object grade) h.in_range l;
  sorted = λ at k. subst (λ rows. Begins rows (list_at T.rows at)) (sym (sorted_rows_random at list A object grade)) (h.sorted at k);
  random = drawn_random m T A list object grade h g;
}

-- nothing is drawn from whatever is told
pub drawn_none : (m : ℕ) (T : Told) → IsDrawn m T []
drawn_none m T = record {
  in_range = λ k d l. absurd (omega arith);
  sorted = λ list l. refl;
  random = λ list l. λ k d p. absurd (omega arith);
}

-- a table that agrees with a transcript agrees with each front of it
pub agrees_front : (m n : ℕ) (D : List (List Row)) (A B : List Access) → Agrees m n D (A ++ B) → Agrees m n D A
agrees_front m n D A B h = record { lists = h.lists; table = h.table; drawn = drawn_front m (whole D) A B h.drawn }

-- each access of a transcript reads one of the m lists
pub agrees_in_range : (m n : ℕ) (D : List (List Row)) (A : List Access) (a : Access) → Agrees m n D A → Contains A a → list_of a < m
agrees_in_range m n D A a h c = drawn_in_range m (whole D) A a h.drawn c

-- each access of a transcript is given by the table after those before it
pub agrees_gives : (m n : ℕ) (D : List (List Row)) (A : List Access) (a : Access) (B : List Access) → Agrees m n D (A ++ a ∷ B) → Gives (whole D) A a
agrees_gives m n D A a B h = drawn_gives m (whole D) A a B h.drawn

-- what an access that a table gives says of its row
pub gives_row : (D : List (List Row)) (A : List Access) (a : Access) → Gives (whole D) A a → Contains (list_at D (list_of a)) (row_of a)
gives_row D A (Sorted list object grade) g = slice_get_contains (list_at D list) (depth_of list A) _ g
gives_row D A (Random list object grade) g = g

pub gives_place : (n : ℕ) (D : List (List Row)) (A : List Access) (list object grade : ℕ) → IsTable n D → list < length D
    → Gives (whole D) A (Sorted list object grade) → depth_of list A < n
gives_place n D A list object grade t l g =
    let p : depth_of list A < length (list_at D list) = slice_get_in_range (list_at D list) (depth_of list A) _ g in
    let e : length (list_at D list) ≡ n = list_at_length n D list t l in
    omega arith

pub gives_at : (D : List (List Row)) (A : List Access) (list object grade : ℕ) (d : Row) → Gives (whole D) A (Sorted list object grade)
    → slice_index_or (list_at D list) (depth_of list A) d ≡ record { object = object; grade = grade }
gives_at D A list object grade d g = slice_get_reads (list_at D list) (depth_of list A) _ d g

pub gives_grade : (n : ℕ) (D : List (List Row)) (A : List Access) (a : Access) → IsTable n D → list_of a < length D → Gives (whole D) A a
    → grade_in (list_at D (list_of a)) (object_of a) ≡ grade_of a
gives_grade n D A a t l g = grade_in_row (list_at D (list_of a)) (object_of a) (grade_of a) (list_at_ranked n D (list_of a) t l) (gives_row D A a g)

pub gives_object : (n : ℕ) (D : List (List Row)) (A : List Access) (a : Access) → IsTable n D → list_of a < length D → Gives (whole D) A a
    → Contains (objects_of D) (object_of a)
gives_object n D A a t l g = objects_from_each n D (list_of a) (object_of a) t l (object_of_row (list_at D (list_of a)) (row_of a) (gives_row D A a g))

-- a list of a table has rows, so an access that the table gives reads one of its lists
list_at_past : (D : List (List Row)) (list : ℕ) → length D ≤ list → list_at D list ≡ []
list_at_past D list l = get_or_past D list [] l

pub gives_in_range : (D : List (List Row)) (A : List Access) (a : Access) → Gives (whole D) A a → list_of a < length D
gives_in_range D A a g =
    elim (cases_lt (list_of a) (length D)) [
      | inl l ↦ l
      | inr p ↦ absurd (contains_nil (row_of a) (subst (λ rows. Contains rows (row_of a)) (list_at_past D (list_of a) p) (gives_row D A a g)))
    ]

-- one more access that the table gives still agrees
pub agrees_push : (m n : ℕ) (D : List (List Row)) (A : List Access) (a : Access) → Agrees m n D A → Gives (whole D) A a → Agrees m n D (A ++ a ∷ [])
agrees_push m n D A a h g = record {
  lists = h.lists;
  table = h.table;
  drawn = drawn_push m (whole D) A a h.drawn (subst (λ k. list_of a < k) h.lists (gives_in_range D A a g)) g;
}

-- each table agrees with the empty transcript
pub agrees_none : (n : ℕ) (D : List (List Row)) → IsTable n D → Agrees (length D) n D []
agrees_none n D t = record { lists = refl; table = t; drawn = drawn_none (length D) (whole D) }

-- a known grade is the grade of the table
abbrev pub From : ℕ → List Access → Row → Type 0
From list A row = (before : List Access) × (a : Access) × (after : List Access) × (A ≡ before ++ a ∷ after) × (list_of a ≡ list) × (row_of a ≡ row)

given_there : (list : ℕ) (a : Access) (A : List Access) (row : Row) → From list A row → From list (a ∷ A) row
given_there list a A row from = (a ∷ from.0, from.1, from.2, ap (λ B. a ∷ B) from.3, from.4, from.5)

pub given_from : (list : ℕ) (A : List Access) (row : Row) → Contains (given_rows list A) row → From list A row
given_from list [] row c = absurd (contains_nil row c)
given_from list (a ∷ A) row c =
    elim (cases_Bool (list_of a == list)) [
      | inl t ↦ elim (contains_cases (row_of a) (given_rows list A) row (subst (λ o. Contains (cons_option o (given_rows list A)) row) (cond-true {A = Option Row} (list_of a == list) (Some (row_of a)) None t) c)) [
        | inl e ↦ ([], a, A, refl, eqb-true (list_of a) list t, e)
        | inr r ↦ given_there list a A row (given_from list A row r)
      ]
      | inr f ↦ let r : Contains (given_rows list A) row = subst (λ o. Contains (cons_option o (given_rows list A)) row) (cond-false {A = Option Row} (list_of a == list) (Some (row_of a)) None f) c in given_there list a A row (given_from list A row r)
    ]

given_agrees : (m n : ℕ) (D : List (List Row)) (A : List Access) (list : ℕ) (row : Row) → Agrees m n D A → Contains (given_rows list A) row
    → Contains (list_at D list) row
given_agrees m n D A list row h c =
    let from = given_from list A row c in
    subst (λ k. Contains (list_at D k) row) from.4
    (subst (λ r. Contains (list_at D (list_of from.1)) r) from.5
    (gives_row D from.0 from.1 (agrees_gives m n D from.0 from.1 from.2 (subst (λ B. Agrees m n D B) from.3 h))))

pub known_in_table : (m n : ℕ) (D : List (List Row)) (A : List Access) (object list grade : ℕ) → Agrees m n D A → known_grade A object list ≡ Some grade
    → Contains (list_at D list) (record { object = object; grade = grade })
known_in_table m n D A object list grade h e = given_agrees m n D A list _ h (grade_among_row (given_rows list A) object grade e)

pub known_grade_is : (m n : ℕ) (D : List (List Row)) (A : List Access) (object list grade : ℕ) → Agrees m n D A → list < m
    → known_grade A object list ≡ Some grade → grade_in (list_at D list) object ≡ grade
known_grade_is m n D A object list grade h l e =
    grade_in_row (list_at D list) object grade (list_at_ranked n D list h.table (subst (λ k. list < k) (sym h.lists) l)) (known_in_table m n D A object list grade h e)

-- one more access: the known grades
pub known_grade_kept : (A B : List Access) (object list grade : ℕ) → known_grade A object list ≡ Some grade → known_grade (A ++ B) object list ≡ Some grade
known_grade_kept A B object list grade e =
    ap (λ rows. grade_among rows object) (given_rows_append list A B) ∙ grade_among_append_some (given_rows list A) (given_rows list B) object grade e

pub known_grade_same : (A : List Access) (a : Access) → known_grade A (object_of a) (list_of a) ≡ None
    → known_grade (A ++ a ∷ []) (object_of a) (list_of a) ≡ Some (grade_of a)
known_grade_same A a e =
    ap (λ rows. grade_among rows (object_of a)) (given_rows_same A a)
    ∙ grade_among_append_none (given_rows (list_of a) A) (row_of a ∷ []) (object_of a) e
    ∙ cond-true {A = Option ℕ} (object_of a == object_of a) (Some (grade_of a)) None (eq-eqb (object_of a) (object_of a) refl)

grade_among_push_other : (rows : List Row) (row : Row) (object : ℕ) → row.object ≢ object → grade_among (rows ++ row ∷ []) object ≡ grade_among rows object
grade_among_push_other [] row object n = cond-false {A = Option ℕ} (row.object == object) (Some row.grade) None (ne_eqb row.object object n)
grade_among_push_other (r ∷ rows) row object n = ap (λ o. cond (r.object == object) (Some r.grade) o) (grade_among_push_other rows row object n)

pub known_grade_other_object : (A : List Access) (a : Access) (object list : ℕ) → object_of a ≢ object
    → known_grade (A ++ a ∷ []) object list ≡ known_grade A object list
known_grade_other_object A a object list n =
    elim (cases_eq (list_of a) list) [
      | inl e ↦ subst (λ k. known_grade (A ++ a ∷ []) object k ≡ known_grade A object k) e
          (ap (λ rows. grade_among rows object) (given_rows_same A a) ∙ grade_among_push_other (given_rows (list_of a) A) (row_of a) object n)
      | inr m ↦ ap (λ rows. grade_among rows object) (given_rows_other list A a m)
    ]

pub known_grade_other_list : (A : List Access) (a : Access) (object list : ℕ) → list_of a ≢ list
    → known_grade (A ++ a ∷ []) object list ≡ known_grade A object list
known_grade_other_list A a object list n = ap (λ rows. grade_among rows object) (given_rows_other list A a n)

-- on a table that agrees, one more access that it gives makes the grade known
pub known_grade_given : (m n : ℕ) (D : List (List Row)) (A : List Access) (a : Access) → Agrees m n D (A ++ a ∷ [])
    → known_grade (A ++ a ∷ []) (object_of a) (list_of a) ≡ Some (grade_of a)
known_grade_given m n D A a h =
    elim (option_cases (known_grade A (object_of a) (list_of a))) [
      | inl none ↦ known_grade_same A a none
      | inr some ↦ known_grade_kept A (a ∷ []) (object_of a) (list_of a) some.0 some.1 ∙ ap Some (sym (known_grade_is m n D A (object_of a) (list_of a) some.0 (agrees_front m n D A (a ∷ []) h) l some.1) ∙ gives_grade n D A a h.table (subst (λ k. list_of a < k) (sym h.lists) l) (agrees_gives m n D A a [] h))
    ]
  where
    l : list_of a < m
    l = agrees_in_range m n D (A ++ a ∷ []) a h (contains_middle A a [])

-- the objects of a transcript are the table's
pub contains_access : (A : List Access) (a : Access) → Contains A a → (before : List Access) × (after : List Access) × (A ≡ before ++ a ∷ after)
contains_access [] a c = absurd (contains_nil a c)
contains_access (b ∷ A) a c =
    elim (contains_cases b A a c) [
      | inl e ↦ ([], A, ap (λ z. z ∷ A) e)
      | inr t ↦ let r = contains_access A a t in (b ∷ r.0, r.1, ap (λ z. b ∷ z) r.2)
    ]

access_object : (m n : ℕ) (D : List (List Row)) (A : List Access) (a : Access) → Agrees m n D A → Contains A a → Contains (objects_of D) (object_of a)
access_object m n D A a h c =
    let split = contains_access A a c in
    gives_object n D split.0 a h.table (subst (λ k. list_of a < k) (sym h.lists) (agrees_in_range m n D A a h c)) (agrees_gives m n D split.0 a split.1 (subst (λ B. Agrees m n D B) split.2 h))

pub named_in_table : (m n : ℕ) (D : List (List Row)) (A : List Access) (object : ℕ) → Agrees m n D A → Contains (named_objects A) object
    → Contains (objects_of D) object
named_in_table m n D A object h c =
    let from = contains_map_from object_of A object (each_once_within (map object_of A) object c) in
    subst (λ o. Contains (objects_of D) o) from.2 (access_object m n D A from.0 h from.1)

pub named_contains : (A : List Access) (a : Access) → Contains A a → Contains (named_objects A) (object_of a)
named_contains A a c = each_once_complete (map object_of A) (object_of a) (contains_map object_of A a c)

pub named_distinct : (A : List Access) → AllPairs (λ (x : ℕ) (y : ℕ). x ≢ y) (named_objects A)
named_distinct A = each_once_distinct (map object_of A)

-- a seen object is a named one
sorted_is_named : (A : List Access) (object : ℕ) → Contains (filter_map sorted_object A) object → Contains (map object_of A) object
sorted_is_named [] object c = absurd (contains_nil object c)
sorted_is_named (Sorted list other grade ∷ A) object c =
    elim (contains_cases other (filter_map sorted_object A) object c) [
      | inl e ↦ subst (λ o. Contains (other ∷ map object_of A) o) e (contains_here other (map object_of A))
      | inr t ↦ contains_there other (map object_of A) object (sorted_is_named A object t)
    ]
sorted_is_named (Random list other grade ∷ A) object c = contains_there other (map object_of A) object (sorted_is_named A object c)

pub seen_is_named : (A : List Access) (object : ℕ) → Contains (seen_objects A) object → Contains (named_objects A) object
seen_is_named A object c = each_once_complete (map object_of A) object (sorted_is_named A object (each_once_within (filter_map sorted_object A) object c))

pub seen_in_table : (m n : ℕ) (D : List (List Row)) (A : List Access) (object : ℕ) → Agrees m n D A → Contains (seen_objects A) object
    → Contains (objects_of D) object
seen_in_table m n D A object h c = named_in_table m n D A object h (seen_is_named A object c)

pub seen_distinct : (A : List Access) → AllPairs (λ (x : ℕ) (y : ℕ). x ≢ y) (seen_objects A)
seen_distinct A = each_once_distinct (filter_map sorted_object A)

-- a table of n rows has n objects, which differ; so no more are named
pub objects_of_distinct : (n : ℕ) (D : List (List Row)) → IsTable n D → AllPairs (λ (x : ℕ) (y : ℕ). x ≢ y) (objects_of D)
objects_of_distinct n [] t = λ i j d l k. absurd (omega arith)
objects_of_distinct n (rows ∷ D) t = objects_distinct rows (list_at_ranked n (rows ∷ D) 0 t (omega arith))

pub objects_of_count : (n : ℕ) (D : List (List Row)) → IsTable n D → 0 < length D → length (objects_of D) ≡ n
objects_of_count n [] t l = absurd (omega arith)
objects_of_count n (rows ∷ D) t l = length-map rows (λ (row : Row). row.object) ∙ list_at_length n (rows ∷ D) 0 t (omega arith)

pub named_count : (m n : ℕ) (D : List (List Row)) (A : List Access) → 0 < m → Agrees m n D A → length (named_objects A) ≤ n
named_count m n D A p h =
    let e : length (objects_of D) ≡ n = objects_of_count n D h.table (subst (λ k. 0 < k) (sym h.lists) p) in
    subst (λ k. length (named_objects A) ≤ k) e
    (distinct_fits (named_objects A) (objects_of D) (named_distinct A) (λ x c. named_in_table m n D A x h c))

pub seen_count : (m n : ℕ) (D : List (List Row)) (A : List Access) → 0 < m → Agrees m n D A → length (seen_objects A) ≤ n
seen_count m n D A p h =
    let e : length (objects_of D) ≡ n = objects_of_count n D h.table (subst (λ k. 0 < k) (sym h.lists) p) in
    subst (λ k. length (seen_objects A) ≤ k) e
    (distinct_fits (seen_objects A) (objects_of D) (seen_distinct A) (λ x c. seen_in_table m n D A x h c))

-- a list is read no deeper than it has rows
pub depth_fits : (m n : ℕ) (D : List (List Row)) (A : List Access) (list : ℕ) → Agrees m n D A → list < m → depth_of list A ≤ n
depth_fits m n D A list h l =
    let whole = list_at D list in
    let split : whole ≡ sorted_rows list A ++ drop (length (sorted_rows list A)) whole = begins_splits (sorted_rows list A) whole (h.drawn.sorted list l) in
    let size : length whole ≡ n = list_at_length n D list h.table (subst (λ k. list < k) (sym h.lists) l) in
    let parts : length whole ≡ length (sorted_rows list A ++ drop (length (sorted_rows list A)) whole) = ap length split in
    omega (arith, length-append (sorted_rows list A) (drop (length (sorted_rows list A)) whole))
