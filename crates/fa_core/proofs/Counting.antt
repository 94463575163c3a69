-- How many of the seen objects have all their grades, after one row more.
use Rattle.std.proofs.Common.{◌≡◌, ◌≢◌, ◌==◌, inl, inr, ℕ, ◌+◌, ◌<◌, ◌≤◌, Bool, true, false, cond, List, [], ◌∷◌, ◌++◌, length, AllPairs, Contains, Option, None, is_none, count_by, refl, sym, ap, subst, ◌∙◌, arith, ne_eqb}
use Rattle.std.specs.List.{slice_get}
use Rattle.std.proofs.lemmas.Bool.{cases_Bool, true≢false}
use Rattle.ranked_list.specs.Table.{objects}
use Rattle.topk_theory.specs.declared.access.Access.{Access}
use Rattle.topk_theory.specs.declared.access.Access.TheVariants.{Sorted}
use Rattle.topk_theory.specs.Transcript.{random_rows, sorted_rows, seen_objects}
use Rattle.topk_theory.specs.Bounds.{known_grade}
use Rattle.topk_theory.specs.Combined.{unknown_lists}
use Rattle.topk_theory.specs.Consistent.{SomeAgrees}
use Rattle.topk_theory.specs.Consistent.Kind.{repeats}
use Rattle.topk_theory.proofs.AgreementLists.{contains_nil, contains_cases, distinct_head, distinct_tail}
use Rattle.topk_theory.proofs.AgreementNames.{has, has_contains, has_not}
use Rattle.topk_theory.proofs.Agreement.{seen_distinct, seen_objects_old, seen_objects_new}
use Rattle.topk_theory.proofs.Consistent.{kind_excludes}
use Rattle.topk_theory.proofs.Counts.{count_first, count_no, count_same, count_append, count_upto}
use Rattle.machine_base.specs.Asking.{next_unknown}
use Rattle.machine_base.proofs.Unknown.{unknown_other}
use Rattle.algorithm_theory.specs.Fagin.{known_whole}
use Rattle.algorithm_theory.proofs.FaginCommon.{each_known, unread_unknown}
use Rattle.fa_core.specs.Course.{common_after}

-- the object has all its grades in m lists
abbrev is_whole : ℕ → List Access → ℕ → Bool
is_whole m A object = length (unknown_lists m A object) == 0

-- tests that differ at one member, of which the first fails there
count_one : (p q : ℕ → Bool) (xs : List ℕ) (o : ℕ) → AllPairs (λ (one other : ℕ). one ≢ other) xs → Contains xs o → ((x : ℕ) → o ≢ x → q x ≡ p x)
    → p o ≡ false → count_by q xs ≡ count_by p xs + cond {A = ℕ} (q o) 1 0
count_one p q [] o apart c same off = absurd (contains_nil o c)
count_one p q (x ∷ xs) o apart c same off =
    elim (contains_cases x xs o c) [
      | inl e ↦
          let rest : count_by q xs ≡ count_by p xs = count_same q p xs (λ y h. same y (λ f. distinct_head x xs y apart h (e ∙ f))) in
          let here : cond {A = ℕ} (q x) 1 0 ≡ cond {A = ℕ} (q o) 1 0 = ap (λ z. cond {A = ℕ} (q z) 1 0) e in
          let none : count_by p (x ∷ xs) ≡ count_by p xs = count_no p x xs (ap p e ∙ off) in
          omega (arith, count_first q x xs, rest, here, none)
      | inr r ↦
          let later : count_by q xs ≡ count_by p xs + cond {A = ℕ} (q o) 1 0 = count_one p q xs o (distinct_tail x xs apart) r same off in
          let here : cond {A = ℕ} (q x) 1 0 ≡ cond {A = ℕ} (p x) 1 0 = ap (λ b. cond {A = ℕ} b 1 0) (same x (λ f. distinct_head x xs o apart r (sym f))) in
          omega (arith, count_first q x xs, count_first p x xs, later, here)
    ]

-- before a row its object lacked this list's grade, where no list was asked for one
row_unknown : (m n : ℕ) (A : List Access) (list object grade : ℕ) → SomeAgrees m n (A ++ Sorted list object grade ∷ []) → random_rows list A ≡ []
    → known_grade A object list ≡ None
row_unknown m n A list object grade some unasked =
    unread_unknown list A object unasked (λ (c : Contains (objects (sorted_rows list A)) object). kind_excludes m n A (Sorted list object grade) repeats c some.0 some.1)

was_lacking : (m n : ℕ) (A : List Access) (list object grade : ℕ) → SomeAgrees m n (A ++ Sorted list object grade ∷ []) → random_rows list A ≡ [] → list < m
    → is_whole m A object ≡ false
was_lacking m n A list object grade some unasked l = by_lists (unknown_lists m A object) refl
  where
    by_lists : (xs : List ℕ) → unknown_lists m A object ≡ xs → (length xs == 0) ≡ false
    by_lists [] e = absurd (true≢false (ap (λ (o : Option ℕ). is_none o) (sym (row_unknown m n A list object grade some unasked)) ∙ each_known m A object list e l))
    by_lists (x ∷ xs) e = ne_eqb (length (x ∷ xs)) 0 (λ f. absurd (omega arith))

-- the objects that have all their grades are one more where the row's object has them now
whole_more : (m n : ℕ) (A : List Access) (list object grade : ℕ) → SomeAgrees m n (A ++ Sorted list object grade ∷ []) → random_rows list A ≡ [] → list < m
    → known_whole m (A ++ Sorted list object grade ∷ []) ≡ known_whole m A + cond {A = ℕ} (is_whole m (A ++ Sorted list object grade ∷ []) object) 1 0
whole_more m n A list object grade some unasked l =
    let a : Access = Sorted list object grade in
    let now : ℕ → Bool = is_whole m (A ++ a ∷ []) in
    let before : ℕ → Bool = is_whole m A in
    let others : (x : ℕ) → object ≢ x → now x ≡ before x = λ x apart. ap (λ (us : List ℕ). length us == 0) (unknown_other m A a x apart) in
    elim (cases_Bool (has object (seen_objects A))) [
      | inl old ↦ (
          let there : Contains (seen_objects A) object = has_contains object (seen_objects A) old in
          ap (λ (os : List ℕ). count_by now os) (seen_objects_old A list object grade there)
          ∙ count_one before now (seen_objects A) object (seen_distinct A) there others (was_lacking m n A list object grade some unasked l))
      | inr new ↦ (
          let none : ¬ Contains (seen_objects A) object = has_not object (seen_objects A) new in
          let front : count_by now (seen_objects A) ≡ count_by before (seen_objects A) = count_same now before (seen_objects A) (λ x c. others x (λ e. none (subst (λ z. Contains (seen_objects A) z) (sym e) c))) in
          let last : count_by now (object ∷ []) ≡ cond {A = ℕ} (now object) 1 0 + count_by now [] = count_first now object [] in
          let nothing : count_by now [] ≡ 0 = refl in
          let both : count_by now (seen_objects A ++ object ∷ []) ≡ count_by now (seen_objects A) + count_by now (object ∷ []) = count_append now (seen_objects A) (object ∷ []) in
          let seen : known_whole m (A ++ a ∷ []) ≡ count_by now (seen_objects A ++ object ∷ []) = ap (λ (os : List ℕ). count_by now os) (seen_objects_new A list object grade none) in
          omega (arith, seen, both, front, last, nothing))
    ]

-- as the code counts them
none_next : (xs : List ℕ) → (length xs == 0) ≡ is_none (slice_get xs 0)
none_next [] = refl
none_next (x ∷ xs) = ne_eqb (length (x ∷ xs)) 0 (λ f. absurd (omega arith))

counted_by : (b : Bool) (common : ℕ) → common + cond {A = ℕ} b 1 0 ≡ cond {A = ℕ} b (common + 1) common
counted_by true common = refl
counted_by false common = omega arith

pub common_more : (m n : ℕ) (A : List Access) (list object grade common : ℕ) → SomeAgrees m n (A ++ Sorted list object grade ∷ []) → random_rows list A ≡ []
    → list < m → common ≡ known_whole m A
    → common_after m (A ++ Sorted list object grade ∷ []) object common ≡ known_whole m (A ++ Sorted list object grade ∷ [])
common_more m n A list object grade common some unasked l is =
    let A' : List Access = A ++ Sorted list object grade ∷ [] in
    let counted : known_whole m A' ≡ known_whole m A + cond {A = ℕ} (is_whole m A' object) 1 0 = whole_more m n A list object grade some unasked l in
    let same : is_whole m A' object ≡ is_none (next_unknown m A' object) = none_next (unknown_lists m A' object) in
    sym (counted ∙ ap (λ (c : ℕ). c + cond {A = ℕ} (is_whole m A' object) 1 0) (sym is) ∙ counted_by (is_whole m A' object) common ∙ ap (λ b. cond {A = ℕ} b (common + 1) common) same)

-- and they are no more than the seen ones
pub common_few : (m : ℕ) (A : List Access) → known_whole m A ≤ length (seen_objects A)
common_few m A = count_upto (is_whole m A) (seen_objects A)
