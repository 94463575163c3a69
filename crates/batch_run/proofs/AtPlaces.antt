-- Items with places, each found at its place.
use Rattle.std.proofs.Common.{◌≡◌, ◌≢◌, ◌≤◌, ◌<◌, ◌+◌, ◌*◌, ◌==◌, inl, inr, ℕ, zero, suc, min, Bool, cond, Option, Some, None, List, [], ◌∷◌, ◌++◌, length, map, All, Contains, count_by, slice_index_or, refl, sym, ap, subst, ◌∙◌, arith}
use Rattle.std.specs.List.{AllZip, flat_map, sum_by}
use Rattle.std.specs.Prelude.{if◌then◌else◌}
use Rattle.std.proofs.lemmas.Bool.Decides.{eqb_tells}
use Rattle.std.proofs.lemmas.List.{map-append}
use Rattle.std.proofs.lemmas.List.Elements.{All-append, Contains-append_left, Contains-append_right}
use Rattle.std.proofs.lemmas.List.Sums.{sum_by-append, sum_by-cons}
use Rattle.topk_theory.proofs.AgreementLists.{contains_nil, contains_here, contains_there, contains_cases}
use Rattle.query_run.specs.declared.running_query.RunningQuery.{RunningQuery}
use Rattle.batch_result.specs.Cut.{begun}
use Rattle.tickets.specs.Draws.{times}
use Rattle.tickets.proofs.Drawing.{times_append}

-- some, each with what holds of it
pub with_all : {A : Type 0} (P : A → Type 0) (xs : List A) → ((i : ℕ) (d : A) → i < length xs → P (slice_index_or xs i d))
    → (ys : List ((x : A) × P x)) × (map (λ (y : (x : A) × P x). y.0) ys ≡ xs)
with_all P [] h = ([], refl)
with_all P (x ∷ xs) h =
    let rest = with_all P xs (λ i d l. h (suc i) d (omega (arith, l))) in
    ((x, h 0 x (omega arith)) ∷ rest.0, ap (λ l. x ∷ l) rest.1)

pub sum_by_map : {A B : Type 0} (f : A → B) (g : B → ℕ) (xs : List A) → sum_by g (map f xs) ≡ sum_by (λ (x : A). g (f x)) xs
sum_by_map f g [] = refl
sum_by_map f g (x ∷ xs) =
    let rest = sum_by_map f g xs in
    let one = sum_by-cons g (f x) (map f xs) in
    let other = sum_by-cons (λ y. g (f y)) x xs in
    omega (arith, rest, one, other)

-- each one is one
pub sum_ones : {A : Type 0} (f : A → ℕ) (xs : List A) → ((i : ℕ) (d : A) → i < length xs → f (slice_index_or xs i d) ≡ 1) → sum_by f xs ≡ length xs
sum_ones f [] h = refl
sum_ones f (x ∷ xs) h =
    let rest : sum_by f xs ≡ length xs = sum_ones f xs (λ i d l. h (suc i) d (omega (arith, l))) in
    let one : f x ≡ 1 = h 0 x (omega arith) in
    omega (arith, rest, one, sum_by-cons f x xs)

-- the items of all
module _ {Y R : Type 0} (f : Y → List R) where
  pub all_in : (P : R → Type 0) (ys : List Y) → ((y : Y) → Contains ys y → All P (f y)) → All P (flat_map f ys)
  all_in P [] h = λ i d l. absurd (omega (arith, l))
  all_in P (y ∷ ys) h = All-append P (f y) (flat_map f ys) (h y (contains_here y ys)) (all_in P ys (λ z c. h z (contains_there y ys z c)))

  pub has_in : (ys : List Y) (y : Y) (r : R) → Contains ys y → Contains (f y) r → Contains (flat_map f ys) r
  has_in [] y r c of = absurd (contains_nil y c)
  has_in (x ∷ ys) y r c of = elim (contains_cases x ys y c) [
    | inl same ↦ Contains-append_left (f x) (flat_map f ys) r (subst (λ z. Contains (f z) r) (sym same) of)
    | inr there ↦ Contains-append_right (f x) (flat_map f ys) r (has_in ys y r there of)
  ]

  pub times_in : (place : R → ℕ) (n : ℕ) (ys : List Y) → times n (map place (flat_map f ys)) ≡ sum_by (λ (y : Y). times n (map place (f y))) ys
  times_in place n [] = refl
  times_in place n (y ∷ ys) =
      let rest = times_in place n ys in
      let all : times n (map place (f y ++ flat_map f ys)) ≡ times n (map place (f y)) + times n (map place (flat_map f ys)) =
      ap (times n) (map-append place (f y) (flat_map f ys)) ∙ times_append n (map place (f y)) (map place (flat_map f ys)) in
      let sum = sum_by-cons (λ (z : Y). times n (map place (f z))) y ys in
      omega (arith, rest, all, sum)

  -- so many of each, counted up to a limit, are no more of all
  pub few_in : {Q : Type 0} (what : R → Q) (test : Q → Bool) (limit number : ℕ) (ys : List Y)
      → ((y : Y) → Contains ys y → min (count_by test (map what (f y))) limit ≤ number)
      → min (count_by test (map what (flat_map f ys))) limit ≤ length ys * number
  few_in what test limit number [] h = let none : min 0 limit ≡ 0 = omega arith in omega (arith, none)
  few_in what test limit number (y ∷ ys) h =
      let rest = few_in what test limit number ys (λ z c. h z (contains_there y ys z c)) in
      let one = h y (contains_here y ys) in
      let all : count_by test (map what (f y ++ flat_map f ys)) ≡ count_by test (map what (f y)) + count_by test (map what (flat_map f ys)) =
      ap (count_by test) (map-append what (f y) (flat_map f ys)) ∙ sum_by-append (λ q. cond (test q) 1 0) (map what (f y)) (map what (flat_map f ys)) in
      let more : (1 + length ys) * number ≡ number + length ys * number = grind arith in
      omega (arith, rest, one, all, more)

-- what stands at each place of a list
abbrev pub rows : {A X : Type 0} → (ℕ → X) → ℕ → List A → List X
rows f k [] = []
rows f k (x ∷ xs) = f k ∷ rows f (k + 1) xs

module _ {A X : Type 0} where
  pub zip_rows : (R : A → X → Type 0) (f : ℕ → X) (k : ℕ) (xs : List A) → ((i : ℕ) (d : A) → i < length xs → R (slice_index_or xs i d) (f (k + i))) → AllZip R xs (rows f k xs)
  zip_rows R f k [] h = tt
  zip_rows R f k (x ∷ xs) h = (
    (let here : k + 0 ≡ k = omega arith in subst (λ n. R x (f n)) here (h 0 x (omega arith))),
    zip_rows R f (k + 1) xs (λ i d l. let next : k + suc i ≡ k + 1 + i = omega arith in subst (λ n. R (slice_index_or xs i d) (f n)) next (h (suc i) d (omega (arith, l)))),
  )

  pub rows_has : (f : ℕ → X) (k i : ℕ) (xs : List A) → i < length xs → Contains (rows f k xs) (f (k + i))
  rows_has f k i [] l = absurd (omega (arith, l))
  rows_has f k zero (x ∷ xs) l = let here : k ≡ k + 0 = omega arith in subst (λ n. Contains (rows f k (x ∷ xs)) (f n)) here (contains_here (f k) (rows f (k + 1) xs))
  rows_has f k (suc i) (x ∷ xs) l =
      let next : k + 1 + i ≡ k + suc i = omega arith in
      subst (λ n. Contains (rows f k (x ∷ xs)) (f n)) next (contains_there (f k) (rows f (k + 1) xs) (f (k + 1 + i)) (rows_has f (k + 1) i xs (omega (arith, l))))

  pub rows_same : (f g : ℕ → X) (k : ℕ) (xs : List A) → ((p : ℕ) → k ≤ p → f p ≡ g p) → rows f k xs ≡ rows g k xs
  rows_same f g k [] h = refl
  rows_same f g k (x ∷ xs) h =
      ap (λ y. y ∷ rows f (k + 1) xs) (h k (omega arith)) ∙ ap (λ l. g k ∷ l) (rows_same f g (k + 1) xs (λ p le. h p (omega (arith, le))))

-- where something stands at each place that goes with what else stands there, they are pairs
pub paired : {A Q E : Type 0} (R : A → (Q × E) → Type 0) (f : ℕ → Option Q) (k : ℕ) (xs : List A) (es : List E) → length es ≡ length xs
    → ((i : ℕ) (d : A) (e : E) → i < length xs → (q : Q) × (f (k + i) ≡ Some q) × R (slice_index_or xs i d) (q, slice_index_or es i e))
    → (ps : List (Q × E)) × AllZip R xs ps × (map (λ (p : Q × E). p.1) ps ≡ es) × (rows f k xs ≡ map (λ (p : Q × E). Some p.0) ps)
paired R f k [] [] size h = ([], tt, refl, refl)
paired R f k [] (e ∷ es) size h = absurd (omega (arith, size))
paired R f k (x ∷ xs) [] size h = absurd (omega (arith, size))
paired R f k (x ∷ xs) (e ∷ es) size h =
    let one = h 0 x e (omega arith) in
    let here : k ≡ k + 0 = omega arith in
    let rest = paired R f (k + 1) xs es (omega (arith, size))
    (λ i d g l.
    let next : k + 1 + i ≡ k + suc i = omega arith in
    let that = h (suc i) d g (omega (arith, l)) in
    (that.0, ap f next ∙ that.1, that.2)) in
    ((one.0, e) ∷ rest.0, (one.2, rest.1), ap (λ l. e ∷ l) rest.2, ap (λ o. o ∷ rows f (k + 1) xs) (ap f here ∙ one.1) ∙ ap (λ l. Some one.0 ∷ l) rest.3)

-- those that are there
abbrev pub there : {Q : Type 0} → List (Option Q) → List Q
there [] = []
there (None ∷ os) = there os
there (Some q ∷ os) = q ∷ there os

module _ {R Q : Type 0} (place : R → ℕ) (what : R → Q) where
  -- what stands at a place: the first one of this place
  abbrev pub at_place : ℕ → List R → Option Q
  at_place p [] = None
  at_place p (r ∷ rs) = if place r == p then Some (what r) else at_place p rs

  abbrev pub without : ℕ → List R → List R
  without p [] = []
  without p (r ∷ rs) = if place r == p then without p rs else r ∷ without p rs

  pub stands_of : (p : ℕ) (rs : List R) (q : Q) → at_place p rs ≡ Some q → (r : R) × Contains rs r × (place r ≡ p) × (what r ≡ q)
  stands_of p [] q e = absurd (cc)
  stands_of p (r ∷ rs) q e = elim (eqb_tells (place r) p) [
    | inl t ↦
        let is : Some (what r) ≡ Some q = sym (ap (λ b. if b then Some (what r) else at_place p rs) t.0) ∙ e in
        (r, contains_here r rs, t.1, ap (λ (o : Option Q). some_or (what r) o) is)
    | inr t ↦
        let is : at_place p rs ≡ Some q = sym (ap (λ b. if b then Some (what r) else at_place p rs) t.0) ∙ e in
        let rest = stands_of p rs q is in
        (rest.0, contains_there r rs rest.0 rest.1, rest.2, rest.3)
  ]
    where
      some_or : Q → Option Q → Q
      some_or d None = d
      some_or d (Some x) = x

  -- one that is there counts
  some_times : (rs : List R) (r : R) → Contains rs r → 1 ≤ times (place r) (map place rs)
  some_times [] r c = absurd (contains_nil r c)
  some_times (s ∷ rs) r c = elim (contains_cases s rs r c) [
    | inl same ↦ elim (eqb_tells (place s) (place r)) [
      | inl t ↦
          let e : times (place r) (map place (s ∷ rs)) ≡ 1 + times (place r) (map place rs) = ap (λ b. (if b then 1 else 0) + times (place r) (map place rs)) t.0 in
          omega (arith, e)
      | inr t ↦ absurd (t.1 (ap place same))
    ]
    | inr more ↦ let rest = some_times rs r more in omega (arith, rest)
  ]

  -- where no place comes twice each stands at its own
  pub stands_there : (rs : List R) (r : R) → times (place r) (map place rs) ≤ 1 → Contains rs r → at_place (place r) rs ≡ Some (what r)
  stands_there [] r once c = absurd (contains_nil r c)
  stands_there (s ∷ rs) r once c = elim (eqb_tells (place s) (place r)) [
    | inl t ↦
        let one : at_place (place r) (s ∷ rs) ≡ Some (what s) = ap (λ b. if b then Some (what s) else at_place (place r) rs) t.0 in
        elim (contains_cases s rs r c) [
          | inl same ↦ one ∙ ap (λ x. Some (what x)) same
          | inr more ↦
              let twice = some_times rs r more in
              let e : times (place r) (map place (s ∷ rs)) ≡ 1 + times (place r) (map place rs) = ap (λ b. (if b then 1 else 0) + times (place r) (map place rs)) t.0 in
              absurd (omega (arith, e, once, twice))
        ]
    | inr t ↦
        let e : times (place r) (map place (s ∷ rs)) ≡ 0 + times (place r) (map place rs) = ap (λ b. (if b then 1 else 0) + times (place r) (map place rs)) t.0 in
        ap (λ b. if b then Some (what s) else at_place (place r) rs) t.0
        ∙ elim (contains_cases s rs r c) [
          | inl same ↦ absurd (t.1 (ap place same))
          | inr more ↦ stands_there rs r (omega (arith, e, once)) more
        ]
  ]

  pub away : (k p : ℕ) (rs : List R) → p ≢ k → at_place p rs ≡ at_place p (without k rs)
  away k p [] ne = refl
  away k p (r ∷ rs) ne = elim (eqb_tells (place r) k) [
    | inl t ↦ elim (eqb_tells (place r) p) [
      | inl u ↦ absurd (ne (sym u.1 ∙ t.1))
      | inr u ↦ ap (λ b. if b then Some (what r) else at_place p rs) u.0 ∙ away k p rs ne
          ∙ sym (ap (λ b. at_place p (if b then without k rs else r ∷ without k rs)) t.0)
    ]
    | inr t ↦ ap (λ o. if place r == p then Some (what r) else o) (away k p rs ne)
        ∙ sym (ap (λ b. at_place p (if b then without k rs else r ∷ without k rs)) t.0)
  ]

-- the queries that stand at the places of a list, counted
module _ {R : Type 0} (place : R → ℕ) (what : R → RunningQuery) (test : RunningQuery → Bool) where
  one_first : (r : R) (rs : List R) → count_by test (map what (r ∷ rs)) ≡ cond (test (what r)) 1 0 + count_by test (map what rs)
  one_first r rs = sum_by-cons (λ q. cond (test q) 1 0) (what r) (map what rs)

  fewer : (k : ℕ) (rs : List R) → count_by test (map what (without place what k rs)) ≤ count_by test (map what rs)
  fewer k [] = omega arith
  fewer k (r ∷ rs) = elim (eqb_tells (place r) k) [
    | inl t ↦
        let e : count_by test (map what (without place what k (r ∷ rs))) ≡ count_by test (map what (without place what k rs)) = ap (λ b. count_by test (map what (if b then without place what k rs else r ∷ without place what k rs))) t.0 in
        let rest = fewer k rs in
        let all = one_first r rs in
        omega (arith, e, rest, all)
    | inr t ↦
        let e : count_by test (map what (without place what k (r ∷ rs))) ≡ count_by test (map what (r ∷ without place what k rs)) = ap (λ b. count_by test (map what (if b then without place what k rs else r ∷ without place what k rs))) t.0 in
        let rest = fewer k rs in
        let all = one_first r rs in
        let kept = one_first r (without place what k rs) in
        omega (arith, e, rest, all, kept)
  ]

  head_counts : (k : ℕ) (rs : List R) → count_by test (begun (at_place place what k rs ∷ [])) + count_by test (map what (without place what k rs)) ≤ count_by test (map what rs)
  head_counts k [] = omega arith
  head_counts k (r ∷ rs) = elim (eqb_tells (place r) k) [
    | inl t ↦
        let o : count_by test (begun (at_place place what k (r ∷ rs) ∷ [])) ≡ count_by test (what r ∷ []) = ap (λ b. count_by test (begun ((if b then Some (what r) else at_place place what k rs) ∷ []))) t.0 in
        let one = sum_by-cons (λ q. cond (test q) 1 0) (what r) [] in
        let none : count_by test [] ≡ 0 = refl in
        let e : count_by test (map what (without place what k (r ∷ rs))) ≡ count_by test (map what (without place what k rs)) = ap (λ b. count_by test (map what (if b then without place what k rs else r ∷ without place what k rs))) t.0 in
        let rest = fewer k rs in
        let all = one_first r rs in
        omega (arith, o, one, none, e, rest, all)
    | inr t ↦
        let o : count_by test (begun (at_place place what k (r ∷ rs) ∷ [])) ≡ count_by test (begun (at_place place what k rs ∷ [])) = ap (λ b. count_by test (begun ((if b then Some (what r) else at_place place what k rs) ∷ []))) t.0 in
        let e : count_by test (map what (without place what k (r ∷ rs))) ≡ count_by test (map what (r ∷ without place what k rs)) = ap (λ b. count_by test (map what (if b then without place what k rs else r ∷ without place what k rs))) t.0 in
        let rest = head_counts k rs in
        let all = one_first r rs in
        let kept = one_first r (without place what k rs) in
        omega (arith, o, e, rest, all, kept)
  ]

  begun_splits : (o : Option RunningQuery) (os : List (Option RunningQuery)) → count_by test (begun (o ∷ os)) ≡ count_by test (begun (o ∷ [])) + count_by test (begun os)
  begun_splits None os = let none : count_by test [] ≡ 0 = refl in omega (arith, none)
  begun_splits (Some q) os =
      let all = sum_by-cons (λ x. cond (test x) 1 0) q (begun os) in
      let one = sum_by-cons (λ x. cond (test x) 1 0) q [] in
      let none : count_by test [] ≡ 0 = refl in
      omega (arith, all, one, none)

  -- those that stand at the places of a list are no more than all
  pub rows_count : {A : Type 0} (k : ℕ) (xs : List A) (rs : List R) → count_by test (begun (rows (λ p. at_place place what p rs) k xs)) ≤ count_by test (map what rs)
  rows_count k [] rs = omega arith
  rows_count k (x ∷ xs) rs =
      let rest = rows_count (k + 1) xs (without place what k rs) in
      let same : rows (λ p. at_place place what p rs) (k + 1) xs ≡ rows (λ p. at_place place what p (without place what k rs)) (k + 1) xs =
      rows_same (λ p. at_place place what p rs) (λ p. at_place place what p (without place what k rs)) (k + 1) xs (λ p le. away place what k p rs (λ e. omega (arith, le, e))) in
      let tail : count_by test (begun (rows (λ p. at_place place what p rs) (k + 1) xs)) ≡ count_by test (begun (rows (λ p. at_place place what p (without place what k rs)) (k + 1) xs)) = ap (λ os. count_by test (begun os)) same in
      let head = head_counts k rs in
      let split = begun_splits (at_place place what k rs) (rows (λ p. at_place place what p rs) (k + 1) xs) in
      omega (arith, rest, tail, head, split)
