-- When some table agrees with a transcript, list by list, and the table that is built where one does.
use Rattle.std.proofs.Common.{◌≡◌, ℕ, zero, suc, ◌+◌, ◌<◌, ◌≤◌, ◌⊎◌, inl, inr, cond, ◌==◌, List, [], ◌∷◌, ◌++◌, length, drop, All, Contains, Option, Some, None, unwrap_or, refl, sym, ap, subst, subst₂, ◌∙◌, arith, eqb-true, eq-eqb, length-append}
use Rattle.std.specs.List.{cons_option, range_with_len}
use Rattle.std.proofs.lemmas.Bool.{cases_Bool, cases_lt, cases_eq, cond-true, cond-false}
use Rattle.std.proofs.lemmas.List.FromFn.{length-range_with_len, get_or-range_with_len, get_or-map-range_with_len, length-map-range_with_len}
use Rattle.std.proofs.lemmas.List.Elements.{Contains-append_right, All-push}
use Rattle.ranked_list.specs.declared.row.Row.{Row}
use Rattle.ranked_list.specs.Table.{IsRanked, IsTable, objects, grade_in, top_grade}
use Rattle.ranked_list.proofs.OptionLaws.{option_cases}
use Rattle.ranked_list.proofs.RankLaws.{IsRanked-nil}
use Rattle.topk_theory.specs.declared.access.Access.{Access}
use Rattle.topk_theory.specs.declared.access.Access.TheVariants.{Sorted, Random}
use Rattle.topk_theory.specs.Aggregate.{objects_of}
use Rattle.topk_theory.specs.Transcript.{Agrees, Begins, list_at, list_of, object_of, grade_of, sorted_rows, random_rows, given_rows, named_objects, bottom_of, list_numbers}
use Rattle.topk_theory.specs.Bounds.{known_grade}
use Rattle.topk_theory.specs.Fixes.{IsObjectSet, IsOver}
use Rattle.topk_theory.specs.Consistent.{Kind, IsOfKind}
use Rattle.topk_theory.specs.Adversary.{filled, chosen, completed}
use Rattle.topk_theory.specs.Consistent.Kind.{no_such_list, above_top, too_many_objects, rises, repeats, clashes, falls_short, above_bottom}
use Rattle.topk_theory.proofs.AgreementLists.{contains_nil, contains_here, contains_there, contains_cases, contains_map_from, all_from_members, member_of_all, begins_with, begins_splits}
use Rattle.topk_theory.proofs.AgreementNames.{has, has_contains, has_not}
use Rattle.topk_theory.proofs.AgreementRows.{grade_in_row, object_of_row, grade_among_row, grade_among_none, list_at_ranked}
use Rattle.topk_theory.proofs.Agreement.{row_of, given_from, named_contains, named_count, named_objects_old, named_objects_new, agrees_in_range, known_grade_is, sorted_rows_sorted, sorted_rows_other, sorted_rows_random, random_rows_random, random_rows_other, random_rows_sorted}
use Rattle.topk_theory.proofs.ConsistentRows.{AreCoherent, ranked_coherent, coherent_read, coherent_looked, filled_other, filled_ranked, filled_objects, filled_has_objects, filled_length, filled_looked}

-- the rows that accesses gave are those that were read and those that were looked up
given_here : (list : ℕ) (a : Access) (A : List Access) (row : Row) → Contains (given_rows list (a ∷ A)) row
    → ((list_of a ≡ list) × (row_of a ≡ row)) ⊎ Contains (given_rows list A) row
given_here list a A row c =
    elim (cases_Bool (list_of a == list)) [
      | inl t ↦ elim (contains_cases (row_of a) (given_rows list A) row (subst (λ o. Contains (cons_option o (given_rows list A)) row) (cond-true {A = Option Row} (list_of a == list) (Some (row_of a)) None t) c)) [
        | inl e ↦ inl (eqb-true (list_of a) list t, e)
        | inr r ↦ inr r
      ]
      | inr f ↦ inr (subst (λ o. Contains (cons_option o (given_rows list A)) row) (cond-false {A = Option Row} (list_of a == list) (Some (row_of a)) None f) c)
    ]

some_here : (list other : ℕ) (row : Row) (rows : List Row) → other ≡ list → Contains (cons_option (cond (other == list) (Some row) None) rows) row
some_here list other row rows e = subst (λ o. Contains (cons_option o rows) row) (sym (cond-true {A = Option Row} (other == list) (Some row) None (eq-eqb other list e))) (contains_here row rows)

some_there : (list other : ℕ) (row : Row) (rows : List Row) (x : Row) → Contains rows x → Contains (cons_option (cond (other == list) (Some row) None) rows) x
some_there list other row rows x c =
    elim (cases_Bool (other == list)) [
      | inl t ↦ subst (λ o. Contains (cons_option o rows) x) (sym (cond-true {A = Option Row} (other == list) (Some row) None t)) (contains_there row rows x c)
      | inr f ↦ subst (λ o. Contains (cons_option o rows) x) (sym (cond-false {A = Option Row} (other == list) (Some row) None f)) c
    ]

some_from : (list other : ℕ) (row : Row) (rows : List Row) (x : Row) → Contains (cons_option (cond (other == list) (Some row) None) rows) x
    → ((other ≡ list) × (row ≡ x)) ⊎ Contains rows x
some_from list other row rows x c =
    elim (cases_Bool (other == list)) [
      | inl t ↦ elim (contains_cases row rows x (subst (λ o. Contains (cons_option o rows) x) (cond-true {A = Option Row} (other == list) (Some row) None t) c)) [
        | inl e ↦ inl (eqb-true other list t, e)
        | inr r ↦ inr r
      ]
      | inr f ↦ inr (subst (λ o. Contains (cons_option o rows) x) (cond-false {A = Option Row} (other == list) (Some row) None f) c)
    ]

pub given_split : (list : ℕ) (A : List Access) (row : Row) → Contains (given_rows list A) row
    → Contains (sorted_rows list A) row ⊎ Contains (random_rows list A) row
given_split list [] row c = absurd (contains_nil row c)
given_split list (Sorted other object grade ∷ A) row c =
    elim (some_from list other (record { object = object; grade = grade }) (given_rows list A) row c) [
      | inl h ↦ inl (subst (λ (z : Row). Contains (sorted_rows list (Sorted other object grade ∷ A)) z) h.1 (some_here list other (record { object = object; grade = grade }) (sorted_rows list A) h.0))
      | inr t ↦ elim (given_split list A row t) [
        | inl s ↦ inl (some_there list other (record { object = object; grade = grade }) (sorted_rows list A) row s)
        | inr r ↦ inr r
      ]
    ]
given_split list (Random other object grade ∷ A) row c =
    elim (some_from list other (record { object = object; grade = grade }) (given_rows list A) row c) [
      | inl h ↦ inr (subst (λ (z : Row). Contains (random_rows list (Random other object grade ∷ A)) z) h.1 (some_here list other (record { object = object; grade = grade }) (random_rows list A) h.0))
      | inr t ↦ elim (given_split list A row t) [
        | inl s ↦ inl s
        | inr r ↦ inr (some_there list other (record { object = object; grade = grade }) (random_rows list A) row r)
      ]
    ]

pub sorted_given : (list : ℕ) (A : List Access) (row : Row) → Contains (sorted_rows list A) row → Contains (given_rows list A) row
sorted_given list [] row c = c
sorted_given list (Sorted other object grade ∷ A) row c =
    elim (some_from list other (record { object = object; grade = grade }) (sorted_rows list A) row c) [
      | inl h ↦ subst (λ (z : Row). Contains (given_rows list (Sorted other object grade ∷ A)) z) h.1 (some_here list other (record { object = object; grade = grade }) (given_rows list A) h.0)
      | inr t ↦ some_there list other (record { object = object; grade = grade }) (given_rows list A) row (sorted_given list A row t)
    ]
sorted_given list (Random other object grade ∷ A) row c = some_there list other (record { object = object; grade = grade }) (given_rows list A) row (sorted_given list A row c)

pub random_given : (list : ℕ) (A : List Access) (row : Row) → Contains (random_rows list A) row → Contains (given_rows list A) row
random_given list [] row c = c
random_given list (Random other object grade ∷ A) row c =
    elim (some_from list other (record { object = object; grade = grade }) (random_rows list A) row c) [
      | inl h ↦ subst (λ (z : Row). Contains (given_rows list (Random other object grade ∷ A)) z) h.1 (some_here list other (record { object = object; grade = grade }) (given_rows list A) h.0)
      | inr t ↦ some_there list other (record { object = object; grade = grade }) (given_rows list A) row (random_given list A row t)
    ]
random_given list (Sorted other object grade ∷ A) row c = some_there list other (record { object = object; grade = grade }) (given_rows list A) row (random_given list A row c)

-- the object of a row that an access gave is named
pub given_named : (list : ℕ) (A : List Access) (row : Row) → Contains (given_rows list A) row → Contains (named_objects A) row.object
given_named list A row c =
    let from = given_from list A row c in
    subst (λ o. Contains (named_objects A) o) (ap (λ (z : Row). z.object) from.5)
    (named_contains A from.1 (subst (λ B. Contains B from.1) (sym from.3) (Contains-append_right from.0 (from.1 ∷ from.2) from.1 (contains_here from.1 from.2))))

-- some table may agree: what each list and the names say
pub record IsCoherent (m n : ℕ) (A : List Access) : Type 0 where
  pub in_range : All (λ access. list_of access < m) A
  pub fits : length (named_objects A) ≤ n
  pub each : (list : ℕ) → list < m → AreCoherent (sorted_rows list A) (random_rows list A)

pub coherent_none : (m n : ℕ) → IsCoherent m n []
coherent_none m n = record {
  in_range = λ k d l. absurd (omega arith);
  fits = omega arith;
  each = λ list l. record {
    ranked = IsRanked-nil;
    capped = λ row c. absurd (contains_nil row c);
    same_read = λ row other c d e. absurd (contains_nil row c);
    same_looked = λ row other c d e. absurd (contains_nil row c);
    below = λ row c n. absurd (contains_nil row c);
  };
}

named_fits : (m n : ℕ) (D : List (List Row)) (A : List Access) → Agrees m n D A → length (named_objects A) ≤ n
named_fits m n D [] h = omega arith
named_fits m n D (a ∷ A) h = let l : list_of a < m = agrees_in_range m n D (a ∷ A) a h (contains_here a A) in named_count m n D (a ∷ A) (omega arith) h

-- where a table agrees all of it holds
pub agrees_coherent : (m n : ℕ) (D : List (List Row)) (A : List Access) → Agrees m n D A → IsCoherent m n A
agrees_coherent m n D A h = record {
  in_range = h.drawn.in_range;
  fits = named_fits m n D A h;
  each = λ list l.
      let whole = list_at D list in
      let read = sorted_rows list A in
      let split : whole ≡ read ++ drop (length read) whole = begins_splits read whole (h.drawn.sorted list l) in
      ranked_coherent read (drop (length read) whole) (random_rows list A)
      (subst IsRanked split (list_at_ranked n D list h.table (subst (λ k. list < k) (sym h.lists) l)))
      (λ row c. subst (λ rows. Contains rows row) split (member_of_all (Contains whole) (random_rows list A) row (h.drawn.random list l) c));
}

-- it stays where one more access is of no kind
push_named : (m n : ℕ) (A : List Access) (a : Access) → IsCoherent m n A → (¬ IsOfKind m n A a too_many_objects) → length (named_objects (A ++ a ∷ [])) ≤ n
push_named m n A a h free =
    elim (cases_Bool (has (object_of a) (named_objects A))) [
      | inl t ↦ subst (λ os. length os ≤ n) (sym (named_objects_old A a (has_contains (object_of a) (named_objects A) t))) h.fits
      | inr f ↦
          let new : ¬ Contains (named_objects A) (object_of a) = has_not (object_of a) (named_objects A) f in
          elim (cases_lt (length (named_objects A)) n) [
            | inl l ↦ subst (λ os. length os ≤ n) (sym (named_objects_new A a new)) (omega (arith, length-append (named_objects A) (object_of a ∷ [])))
            | inr l ↦ absurd (free (l, new))
          ]
    ]

push_top : (m n : ℕ) (A : List Access) (a : Access) → (¬ IsOfKind m n A a above_top) → grade_of a ≤ top_grade
push_top m n A a free = elim (cases_lt top_grade (grade_of a)) [ inl l ↦ absurd (free l) | inr l ↦ l ]

push_in_range : (m n : ℕ) (A : List Access) (a : Access) → (¬ IsOfKind m n A a no_such_list) → list_of a < m
push_in_range m n A a free = elim (cases_lt (list_of a) m) [ inl l ↦ l | inr l ↦ absurd (free l) ]

push_each : (m n : ℕ) (A : List Access) (a : Access) → IsCoherent m n A → ((kind : Kind) → ¬ IsOfKind m n A a kind) → (at : ℕ) → at < m
    → AreCoherent (sorted_rows at (A ++ a ∷ [])) (random_rows at (A ++ a ∷ []))
push_each m n A (Sorted list object grade) h free at l =
    elim (cases_eq list at) [
      | inl e ↦ subst (λ k. AreCoherent (sorted_rows k (A ++ Sorted list object grade ∷ [])) (random_rows k (A ++ Sorted list object grade ∷ []))) e
          (subst₂ AreCoherent (sym (sorted_rows_sorted list A object grade)) (sym (random_rows_sorted list list A object grade))
          (coherent_read (sorted_rows list A) (random_rows list A) object grade
          (h.each list (subst (λ k. k < m) (sym e) l))
          (push_top m n A (Sorted list object grade) (free above_top))
          (elim (cases_lt (bottom_of list A) grade) [ inl b ↦ absurd (free rises b) | inr b ↦ b ])
          (free repeats) (free clashes) (free falls_short)))
      | inr d ↦ subst₂ AreCoherent (sym (sorted_rows_other at list A object grade d)) (sym (random_rows_sorted at list A object grade)) (h.each at l)
    ]
push_each m n A (Random list object grade) h free at l =
    elim (cases_eq list at) [
      | inl e ↦ subst (λ k. AreCoherent (sorted_rows k (A ++ Random list object grade ∷ [])) (random_rows k (A ++ Random list object grade ∷ []))) e
          (subst₂ AreCoherent (sym (sorted_rows_random list list A object grade)) (sym (random_rows_random list A object grade))
          (coherent_looked (sorted_rows list A) (random_rows list A) object grade
          (h.each list (subst (λ k. k < m) (sym e) l))
          (push_top m n A (Random list object grade) (free above_top))
          (λ other. free clashes (other.0, sorted_given list A _ other.1, other.2))
          (λ other. free clashes (other.0, random_given list A _ other.1, other.2))
          (λ unread. elim (cases_lt (bottom_of list A) grade) [ inl b ↦ absurd (free above_bottom (unread, b)) | inr b ↦ b ])))
      | inr d ↦ subst₂ AreCoherent (sym (sorted_rows_random at list A object grade)) (sym (random_rows_other at list A object grade d)) (h.each at l)
    ]

pub coherent_push : (m n : ℕ) (A : List Access) (a : Access) → IsCoherent m n A → ((kind : Kind) → ¬ IsOfKind m n A a kind) → IsCoherent m n (A ++ a ∷ [])
coherent_push m n A a h free = record {
  in_range = All-push (λ access. list_of access < m) A a h.in_range (push_in_range m n A a (free no_such_list));
  fits = push_named m n A a h (free too_many_objects);
  each = push_each m n A a h free;
}

-- the table over O in which each known grade stands, and each unknown one is as chosen
pub completed_at : (choose : ℕ → ℕ → ℕ) (O : List ℕ) (m : ℕ) (A : List Access) (list : ℕ) → list < m
    → list_at (completed choose O m A) list ≡ filled (chosen choose A list) O (sorted_rows list A)
completed_at choose O m A list l = get_or-map-range_with_len (λ k. filled (chosen choose A k) O (sorted_rows k A)) 0 m list list [] l (omega arith)

chosen_known : (choose : ℕ → ℕ → ℕ) (A : List Access) (list : ℕ) (row : Row) → AreCoherent (sorted_rows list A) (random_rows list A)
    → Contains (random_rows list A) row → (¬ Contains (objects (sorted_rows list A)) row.object) → chosen choose A list row.object ≡ row.grade
chosen_known choose A list row h c unread =
    elim (option_cases (known_grade A row.object list)) [
      | inl none ↦ absurd (grade_among_none (given_rows list A) row.object none (object_of_row (given_rows list A) row (random_given list A row c)))
      | inr some ↦ ap (λ o. unwrap_or o (choose list row.object)) some.1
          ∙ elim (given_split list A (record { object = row.object; grade = some.0 }) (grade_among_row (given_rows list A) row.object some.0 some.1)) [
            | inl s ↦ absurd (unread (object_of_row (sorted_rows list A) (record { object = row.object; grade = some.0 }) s))
            | inr r ↦ h.same_looked (record { object = row.object; grade = some.0 }) row r c refl
          ]
    ]

chosen_low : (choose : ℕ → ℕ → ℕ) (A : List Access) (list object : ℕ) → AreCoherent (sorted_rows list A) (random_rows list A)
    → choose list object ≤ bottom_of list A → (¬ Contains (objects (sorted_rows list A)) object) → chosen choose A list object ≤ bottom_of list A
chosen_low choose A list object h low unread =
    elim (option_cases (known_grade A object list)) [
      | inl none ↦ subst (λ o. unwrap_or o (choose list object) ≤ bottom_of list A) (sym none) low
      | inr some ↦ subst (λ o. unwrap_or o (choose list object) ≤ bottom_of list A) (sym some.1)
          (elim (given_split list A (record { object = object; grade = some.0 }) (grade_among_row (given_rows list A) object some.0 some.1)) [
            | inl s ↦ absurd (unread (object_of_row (sorted_rows list A) (record { object = object; grade = some.0 }) s))
            | inr r ↦ h.below (record { object = object; grade = some.0 }) r unread
          ])
    ]

-- what the table is made for
pub record MayComplete (choose : ℕ → ℕ → ℕ) (O : List ℕ) (m n : ℕ) (A : List Access) : Type 0 where
  pub coherent : IsCoherent m n A
  pub over : IsObjectSet n O
  pub named : (object : ℕ) → Contains (named_objects A) object → Contains O object
  pub low : (list object : ℕ) → choose list object ≤ bottom_of list A

read_named : (choose : ℕ → ℕ → ℕ) (O : List ℕ) (m n : ℕ) (A : List Access) (list object : ℕ) → MayComplete choose O m n A
    → Contains (objects (sorted_rows list A)) object → Contains O object
read_named choose O m n A list object h c =
    let from = contains_map_from (λ (z : Row). z.object) (sorted_rows list A) object c in
    subst (λ o. Contains O o) from.2 (h.named from.0.object (given_named list A from.0 (sorted_given list A from.0 from.1)))

completed_ranked : (choose : ℕ → ℕ → ℕ) (O : List ℕ) (m n : ℕ) (A : List Access) (list : ℕ) → MayComplete choose O m n A → list < m
    → IsRanked (filled (chosen choose A list) O (sorted_rows list A))
completed_ranked choose O m n A list h l =
    filled_ranked (chosen choose A list) O (sorted_rows list A) h.over.distinct (h.coherent.each list l).ranked
    (λ object unread. chosen_low choose A list object (h.coherent.each list l) (h.low list object) unread)

-- a member of the table is one of its lists
completed_member : (choose : ℕ → ℕ → ℕ) (O : List ℕ) (m : ℕ) (A : List Access) (rows : List Row) → Contains (completed choose O m A) rows
    → (list : ℕ) × (list < m) × (filled (chosen choose A list) O (sorted_rows list A) ≡ rows)
completed_member choose O m A rows c =
    let from = contains_map_from (λ list. filled (chosen choose A list) O (sorted_rows list A)) (list_numbers m) rows c in
    let at : from.1.0 < length (range_with_len 0 m) = from.1.1 in
    let size : length (range_with_len 0 m) ≡ m = length-range_with_len 0 m in
    let below : from.1.0 < m = omega arith in
    let number : from.0 ≡ 0 + from.1.0 = sym from.1.2 ∙ get_or-range_with_len 0 m from.1.0 from.0 below in
    (from.0, omega arith, from.2)

completed_table : (choose : ℕ → ℕ → ℕ) (O : List ℕ) (m n : ℕ) (A : List Access) → MayComplete choose O m n A → IsTable n (completed choose O m A)
completed_table choose O m n A h = record {
  sized = all_from_members (λ (rows : List Row). length rows ≡ n) (completed choose O m A) (λ rows c.
      let from = completed_member choose O m A rows c in
      subst (λ (z : List Row). length z ≡ n) from.2
      (filled_length (chosen choose A from.0) O (sorted_rows from.0 A) h.over.distinct (completed_ranked choose O m n A from.0 h from.1) (λ p d. read_named choose O m n A from.0 p h d) ∙ h.over.sized));
  ranked = all_from_members IsRanked (completed choose O m A) (λ rows c.
      let from = completed_member choose O m A rows c in
      subst IsRanked from.2 (completed_ranked choose O m n A from.0 h from.1));
  same = all_from_members (λ rows. All (λ others. (object : ℕ) → Contains (objects rows) object → Contains (objects others) object) (completed choose O m A)) (completed choose O m A) (λ rows c.
      all_from_members (λ others. (object : ℕ) → Contains (objects rows) object → Contains (objects others) object) (completed choose O m A) (λ others d.
      let from = completed_member choose O m A rows c in
      let to = completed_member choose O m A others d in
      λ object e. subst (λ (z : List Row). Contains (objects z) object) to.2
      (filled_has_objects (chosen choose A to.0) O (sorted_rows to.0 A) object
      (filled_objects (chosen choose A from.0) O (sorted_rows from.0 A) object (λ p f. read_named choose O m n A from.0 p h f)
      (subst (λ (z : List Row). Contains (objects z) object) (sym from.2) e)))));
}

pub completed_agrees : (choose : ℕ → ℕ → ℕ) (O : List ℕ) (m n : ℕ) (A : List Access) → MayComplete choose O m n A → Agrees m n (completed choose O m A) A
completed_agrees choose O m n A h = record {
  lists = length-map-range_with_len (λ list. filled (chosen choose A list) O (sorted_rows list A)) 0 m;
  table = completed_table choose O m n A h;
  drawn = record {
    in_range = h.coherent.in_range;
    sorted = λ list l. subst (λ rows. Begins (sorted_rows list A) rows) (sym (completed_at choose O m A list l)) (begins_with (sorted_rows list A) _);
    random = λ list l. subst (λ rows. All (Contains rows) (random_rows list A)) (sym (completed_at choose O m A list l))
        (all_from_members (Contains (filled (chosen choose A list) O (sorted_rows list A))) (random_rows list A) (λ row c.
        filled_looked (chosen choose A list) O (sorted_rows list A) (random_rows list A) row (h.coherent.each list l) c
        (h.named row.object (given_named list A row (random_given list A row c)))
        (λ unread. chosen_known choose A list row (h.coherent.each list l) c unread)));
  };
}

-- its objects are those of O, and each grade is the known one or else the chosen one
pub completed_objects : (choose : ℕ → ℕ → ℕ) (O : List ℕ) (m n : ℕ) (A : List Access) (object : ℕ) → MayComplete choose O m n A
    → Contains (objects_of (completed choose O m A)) object → Contains O object
completed_objects choose O zero n A object h c = absurd (contains_nil object c)
completed_objects choose O (suc m) n A object h c = filled_objects (chosen choose A 0) O (sorted_rows 0 A) object (λ p d. read_named choose O (suc m) n A 0 p h d) c

pub completed_has_objects : (choose : ℕ → ℕ → ℕ) (O : List ℕ) (m : ℕ) (A : List Access) (object : ℕ) → 0 < m → Contains O object
    → Contains (objects_of (completed choose O m A)) object
completed_has_objects choose O zero A object l c = absurd (omega arith)
completed_has_objects choose O (suc m) A object l c = filled_has_objects (chosen choose A 0) O (sorted_rows 0 A) object c

pub completed_over : (choose : ℕ → ℕ → ℕ) (O : List ℕ) (m n : ℕ) (A : List Access) → 0 < m → MayComplete choose O m n A → IsOver O (completed choose O m A)
completed_over choose O m n A l h = λ object. ((λ c. completed_objects choose O m n A object h c), (λ c. completed_has_objects choose O m A object l c))

pub completed_grade : (choose : ℕ → ℕ → ℕ) (O : List ℕ) (m n : ℕ) (A : List Access) (list object : ℕ) → MayComplete choose O m n A → list < m
    → Contains O object → grade_in (list_at (completed choose O m A) list) object ≡ chosen choose A list object
completed_grade choose O m n A list object h l c =
    elim (option_cases (known_grade A object list)) [
      | inl none ↦ ap (λ rows. grade_in rows object) (completed_at choose O m A list l)
          ∙ grade_in_row (filled (chosen choose A list) O (sorted_rows list A)) object (chosen choose A list object) (completed_ranked choose O m n A list h l)
          (filled_other (chosen choose A list) O (sorted_rows list A) object c (λ d.
          let from = contains_map_from (λ (z : Row). z.object) (sorted_rows list A) object d in
          grade_among_none (given_rows list A) object none (subst (λ o. Contains (objects (given_rows list A)) o) from.2 (object_of_row (given_rows list A) from.0 (sorted_given list A from.0 from.1)))))
      | inr some ↦ known_grade_is m n (completed choose O m A) A object list some.0 (completed_agrees choose O m n A h) l some.1 ∙ sym (ap (λ o. unwrap_or o (choose list object)) some.1)
    ]
