-- The unknown grades of an object: the first list that has one, and what one more access leaves of them.
use Rattle.std.proofs.Common.{◌≡◌, ◌≢◌, ℕ, suc, ◌+◌, ◌-◌, ◌<◌, inl, inr, Bool, true, false, not, cond, List, [], ◌∷◌, ◌++◌, length, map, filter, AllPairs, Contains, Option, Some, None, is_none, is_some, refl, sym, ap, subst, ◌∙◌, arith, get_or}
use Rattle.std.specs.List.{slice_get, range_with_len}
use Rattle.std.proofs.lemmas.Bool.{cases_Bool, cases_eq, cond-true, cond-false, true≢false, false≢true}
use Rattle.std.proofs.lemmas.List.FromFn.{get_or-map-range_with_len, length-map-range_with_len}
use Rattle.ranked_list.proofs.OptionLaws.{none_if_is_none}
use Rattle.topk_theory.specs.declared.access.Access.{Access}
use Rattle.topk_theory.specs.Transcript.{list_of, object_of, list_numbers}
use Rattle.topk_theory.specs.Bounds.{known_grade}
use Rattle.topk_theory.specs.Combined.{unknown_lists}
use Rattle.topk_theory.proofs.AgreementLists.{contains_here, contains_there}
use Rattle.topk_theory.proofs.Agreement.{known_grade_same, known_grade_other_object, known_grade_other_list}
use Rattle.topk_theory.proofs.Consistent.{range_distinct}
use Rattle.topk_theory.proofs.ThresholdLists.{contains_from_filter}
use Rattle.topk_theory.proofs.UnknownLists.{unknown_split}
use Rattle.machine_base.specs.Asking.{next_unknown}

-- ---- the first list with an unknown grade
pub unknown_found : (m list : ℕ) (A : List Access) (object : ℕ) → list < m → unknown_lists list A object ≡ [] → is_none (known_grade A object list) ≡ true
    → next_unknown m A object ≡ Some list
unknown_found m list A object l none unknown =
    let more : m ≡ list + suc (m - (list + 1)) = omega arith in
    let rest : List ℕ = filter (λ other. is_none (known_grade A object other)) (range_with_len (list + 1) (m - (list + 1))) in
    ap (λ n. next_unknown n A object) more
    ∙ ap (λ (xs : List ℕ). slice_get xs 0) (unknown_split list (suc (m - (list + 1))) A object
    ∙ ap (λ xs. xs ++ cond {A = List ℕ} (is_none (known_grade A object list)) (list ∷ rest) rest) none
    ∙ cond-true (is_none (known_grade A object list)) (list ∷ rest) rest unknown)

pub none_found : (m : ℕ) (A : List Access) (object : ℕ) → unknown_lists m A object ≡ [] → next_unknown m A object ≡ None
none_found m A object none = ap (λ (xs : List ℕ). slice_get xs 0) none

-- a known grade xs it is kept
pub known_at : (m list : ℕ) (A : List Access) (object : ℕ) (known : List (Option ℕ)) (d : Option ℕ) → list < m
    → known ≡ map (λ l. known_grade A object l) (list_numbers m) → get_or known list d ≡ known_grade A object list
known_at m list A object known d l e =
    let none : 0 + list ≡ list = omega arith in
    ap (λ xs. get_or xs list d) e ∙ get_or-map-range_with_len (λ l. known_grade A object l) 0 m list list d l none

pub unknown_of : (kept known : Option ℕ) → kept ≡ known → is_some kept ≡ false → is_none known ≡ true
unknown_of None known e f = ap (λ (o : Option ℕ). is_none o) (sym e)
unknown_of (Some x) known e f = absurd (true≢false f)

pub known_of : (kept known : Option ℕ) → kept ≡ known → is_some kept ≡ true → is_none known ≡ false
known_of None known e t = absurd (false≢true t)
known_of (Some x) known e t = ap (λ (o : Option ℕ). is_none o) (sym e)

pub tells_unknown : (kept known : Option ℕ) (r : Bool) → kept ≡ known → is_some kept ≡ not r → r ≡ is_none known
tells_unknown None known true e h = ap (λ (o : Option ℕ). is_none o) e
tells_unknown None known false e h = absurd (false≢true h)
tells_unknown (Some x) known true e h = absurd (true≢false h)
tells_unknown (Some x) known false e h = ap (λ (o : Option ℕ). is_none o) e

pub known_length : (m : ℕ) (A : List Access) (object : ℕ) (known : List (Option ℕ)) → known ≡ map (λ l. known_grade A object l) (list_numbers m)
    → length known ≡ m
known_length m A object known e = ap length e ∙ length-map-range_with_len (λ l. known_grade A object l) 0 m

-- ---- none and some
pub some_unknown : (m : ℕ) (A : List Access) (object list : ℕ) → next_unknown m A object ≡ Some list
    → (rest : List ℕ) × (unknown_lists m A object ≡ list ∷ rest)
some_unknown m A object list e = first_of (unknown_lists m A object) e
  where
    first_of : (xs : List ℕ) → slice_get xs 0 ≡ Some list → (rest : List ℕ) × (xs ≡ list ∷ rest)
    first_of [] e = absurd (cc)
    first_of (x ∷ xs) e = (xs, ap (λ y. y ∷ xs) (one e))
      where
        one : Some x ≡ Some list → x ≡ list
        one e = cc

pub no_unknown : (m : ℕ) (A : List Access) (object : ℕ) → next_unknown m A object ≡ None → unknown_lists m A object ≡ []
no_unknown m A object e = first_of (unknown_lists m A object) e
  where
    first_of : (xs : List ℕ) → slice_get xs 0 ≡ None → xs ≡ []
    first_of [] e = refl
    first_of (x ∷ xs) e = absurd (cc)

-- ---- one more access
filter_same : (p q : ℕ → Bool) (xs : List ℕ) → ((x : ℕ) → Contains xs x → p x ≡ q x) → filter p xs ≡ filter q xs
filter_same p q [] same = refl
filter_same p q (x ∷ xs) same =
    ap (λ b. cond {A = List ℕ} b (x ∷ filter p xs) (filter p xs)) (same x (contains_here x xs))
    ∙ ap (λ (ys : List ℕ). cond {A = List ℕ} (q x) (x ∷ ys) ys) (filter_same p q xs (λ y c. same y (contains_there x xs y c)))

pub unknown_other : (m : ℕ) (A : List Access) (a : Access) (object : ℕ) → object_of a ≢ object → unknown_lists m (A ++ a ∷ []) object ≡ unknown_lists m A object
unknown_other m A a object apart =
    filter_same (λ list. is_none (known_grade (A ++ a ∷ []) object list)) (λ list. is_none (known_grade A object list)) (list_numbers m)
    (λ list c. ap (λ (o : Option ℕ). is_none o) (known_grade_other_object A a object list apart))

-- what is kept but for the first
filter_rest : (p q : ℕ → Bool) (xs : List ℕ) (first : ℕ) (rest : List ℕ) → AllPairs (λ (a : ℕ) (b : ℕ). a ≢ b) xs → ((x : ℕ) → first ≢ x → q x ≡ p x)
    → q first ≡ false → filter p xs ≡ first ∷ rest → filter q xs ≡ rest
filter_rest p q [] first rest apart same off e = absurd (cc)
filter_rest p q (x ∷ xs) first rest apart same off e =
    let later : AllPairs (λ (a : ℕ) (b : ℕ). a ≢ b) xs = λ i j d lt within. apart (suc i) (suc j) d (omega arith) (omega arith) in
    elim (cases_Bool (p x)) [
      | inl t ↦
          let cut : x ∷ filter p xs ≡ first ∷ rest = sym (cond-true (p x) (x ∷ filter p xs) (filter p xs) t) ∙ e in
          let is_first : x ≡ first = heads x first (filter p xs) rest cut in
          let is_rest : filter p xs ≡ rest = tails x first (filter p xs) rest cut in
          let away : q x ≡ false = ap q is_first ∙ off in
          cond-false (q x) (x ∷ filter q xs) (filter q xs) away
          ∙ filter_same q p xs (λ y c. same y (λ f. apart 0 (suc c.0) y (omega arith) (let w = c.1 in omega arith) (is_first ∙ f ∙ sym c.2)))
          ∙ is_rest
      | inr f ↦
          let cut : filter p xs ≡ first ∷ rest = sym (cond-false (p x) (x ∷ filter p xs) (filter p xs) f) ∙ e in
          let away : q x ≡ false = elim (cases_eq first x) [ inl s ↦ ap q (sym s) ∙ off | inr n ↦ same x n ∙ f ] in
          cond-false (q x) (x ∷ filter q xs) (filter q xs) away ∙ filter_rest p q xs first rest later same off cut
    ]
  where
    heads : (a b : ℕ) (xs ys : List ℕ) → a ∷ xs ≡ b ∷ ys → a ≡ b
    heads a b xs ys e = cc

    tails : (a b : ℕ) (xs ys : List ℕ) → a ∷ xs ≡ b ∷ ys → xs ≡ ys
    tails a b xs ys e = cc

-- the grade that comes first is unknown
pub first_is_unknown : (m : ℕ) (A : List Access) (object list : ℕ) (rest : List ℕ) → unknown_lists m A object ≡ list ∷ rest → known_grade A object list ≡ None
first_is_unknown m A object list rest e =
    let kept = contains_from_filter (λ other. is_none (known_grade A object other)) (list_numbers m) list (subst (λ xs. Contains xs list) (sym e) (contains_here list rest)) in
    none_if_is_none (known_grade A object list) kept.1

-- and once it is asked those behind it are left
pub unknown_asked : (m : ℕ) (A : List Access) (a : Access) (rest : List ℕ) → unknown_lists m A (object_of a) ≡ list_of a ∷ rest
    → unknown_lists m (A ++ a ∷ []) (object_of a) ≡ rest
unknown_asked m A a rest e =
    let none : known_grade A (object_of a) (list_of a) ≡ None = first_is_unknown m A (object_of a) (list_of a) rest e in
    filter_rest (λ list. is_none (known_grade A (object_of a) list)) (λ list. is_none (known_grade (A ++ a ∷ []) (object_of a) list)) (list_numbers m) (list_of a) rest (range_distinct m)
    (λ list apart. ap (λ (o : Option ℕ). is_none o) (known_grade_other_list A a (object_of a) list apart))
    (ap (λ (o : Option ℕ). is_none o) (known_grade_same A a none)) e
