-- The lower median by counting: one value meets it and no other, it stands in the middle of a sorted list, and it is monotone.
use Rattle.std.proofs.Common.{◌≡◌, ℕ, zero, suc, ◌+◌, ◌-◌, ◌/◌, ◌<◌, ◌≤◌, Bool, true, false, cond, ltb, leb, List, [], ◌∷◌, length, get_or, Some, Contains, count_by, refl, sym, ap, ◌∙◌, subst, ⊎_elim, arith}
use Rattle.std.specs.Prelude.{find, unwrap_or, IsPermutation}
use Rattle.std.proofs.lemmas.Bool.{false≢true, cases_lt, cases_Bool, ltb-true, leb-true, lt-ltb, le-leb, leb-false, and_parts, and_from, cond-true, cond-false}
use Rattle.std.proofs.lemmas.List.Sums.{sum_by-cons, sum_by-le-sum_by}
use Rattle.std.proofs.lemmas.List.Sorted.{IsPermutation-refl, IsPermutation-sym, IsPermutation-cons, IsPermutation-middle, IsPermutation-trans, length_permutation, Contains-permutation, sum_by-IsPermutation}
use Rattle.std.proofs.lemmas.List.Elements.{Contains-get_or}
use Rattle.monotone_fn.specs.Value.{middle, is_median, median, IsMedian}

-- ---- counts
abbrev smaller : ℕ → List ℕ → ℕ
smaller v ns = count_by (λ n. ltb n v) ns

abbrev not_greater : ℕ → List ℕ → ℕ
not_greater v ns = count_by (λ n. leb n v) ns

one_le : (a b : Bool) → (a ≡ true → b ≡ true) → cond a 1 0 ≤ cond b 1 0
one_le true true h = omega arith
one_le false true h = omega arith
one_le false false h = omega arith
one_le true false h = absurd (false≢true (h refl))

count_by-cons : (p : ℕ → Bool) (n : ℕ) (ns : List ℕ) → count_by p (n ∷ ns) ≡ cond (p n) 1 0 + count_by p ns
count_by-cons p n ns = sum_by-cons (λ x. cond (p x) 1 0) n ns

count_by-le : (p q : ℕ → Bool) → ((n : ℕ) → p n ≡ true → q n ≡ true) → (ns : List ℕ) → count_by p ns ≤ count_by q ns
count_by-le p q h ns =
    sum_by-le-sum_by (λ n. cond (p n) 1 0) (λ n. cond (q n) 1 0) ns (λ n. one_le (p n) (q n) (h n))

not_greater-le-smaller : (v w : ℕ) (ns : List ℕ) → v < w → not_greater v ns ≤ smaller w ns
not_greater-le-smaller v w ns h =
    count_by-le (λ n. leb n v) (λ n. ltb n w) (λ n e. lt-ltb n w (omega (arith, leb-true n v e))) ns

-- ---- no two values are lower medians
IsMedian-le : (ns : List ℕ) (v w : ℕ) → IsMedian ns v → IsMedian ns w → v ≤ w
IsMedian-le ns v w a b =
    ⊎_elim (λ h. absurd (omega (arith, not_greater-le-smaller w v ns h, a.fewer_smaller, b.enough_not_greater))) (λ h. h) (cases_lt w v)

pub IsMedian-unique : (ns : List ℕ) (v w : ℕ) → IsMedian ns v → IsMedian ns w → v ≡ w
IsMedian-unique ns v w a b = omega (arith, IsMedian-le ns v w a b, IsMedian-le ns w v b a)

-- ---- what `median` finds
is_median-IsMedian : (ns : List ℕ) (v : ℕ) → IsMedian ns v → is_median ns v ≡ true
is_median-IsMedian ns v m =
    and_from _ _ (lt-ltb _ _ m.fewer_smaller) (le-leb _ _ m.enough_not_greater)

IsMedian-is_median : (ns : List ℕ) (v : ℕ) → Contains ns v → is_median ns v ≡ true → IsMedian ns v
IsMedian-is_median ns v c e =
    let both = and_parts _ _ e in
    record { among = c; fewer_smaller = ltb-true _ _ both.0; enough_not_greater = leb-true _ _ both.1 }

record Found (p : ℕ → Bool) (ns : List ℕ) : Type 0 where
  at : ℕ
  is : find p ns ≡ Some at
  among : Contains ns at
  passes : p at ≡ true

later : (n v : ℕ) (ns : List ℕ) → Contains ns v → Contains (n ∷ ns) v
later n v ns c = (suc c.0, omega (arith, c.1), c.2)

Found-later : (p : ℕ → Bool) (n : ℕ) (ns : List ℕ) → p n ≡ false → Found p ns → Found p (n ∷ ns)
Found-later p n ns e f =
    record { at = f.at; is = cond-false (p n) (Some n) (find p ns) e ∙ f.is; among = later n f.at ns f.among; passes = f.passes }

Found-here : (p : ℕ → Bool) (n : ℕ) (ns : List ℕ) → p n ≡ true → Found p (n ∷ ns)
Found-here p n ns e = record { at = n; is = cond-true (p n) (Some n) (find p ns) e; among = (0, omega arith, refl); passes = e }

Found-contains : (p : ℕ → Bool) (ns : List ℕ) (v k : ℕ) → k < length ns → get_or ns k v ≡ v → p v ≡ true → Found p ns
Found-contains p [] v k h is e = absurd (omega arith)
Found-contains p (n ∷ ns) v zero h is e = Found-here p n ns (ap p is ∙ e)
Found-contains p (n ∷ ns) v (suc k) h is e =
    ⊎_elim (λ y. Found-here p n ns y) (λ y. Found-later p n ns y (Found-contains p ns v k (omega arith) is e)) (cases_Bool (p n))

pub median-IsMedian : (ns : List ℕ) (v : ℕ) → IsMedian ns v → median ns ≡ v
median-IsMedian ns v m =
    let f = Found-contains (is_median ns) ns v m.among.0 m.among.1 m.among.2 (is_median-IsMedian ns v m) in
    ap (λ o. unwrap_or o 0) f.is ∙ IsMedian-unique ns f.at v (IsMedian-is_median ns f.at f.among f.passes) m

-- ---- the middle of a list that rises
abbrev AtLeast : ℕ → List ℕ → Type 0
AtLeast m [] = Unit {0}
AtLeast m (n ∷ ns) = (m ≤ n) × AtLeast m ns

abbrev Rises : List ℕ → Type 0
Rises [] = Unit {0}
Rises (n ∷ ns) = AtLeast n ns × Rises ns

none_smaller : (m : ℕ) (ns : List ℕ) → AtLeast m ns → smaller m ns ≡ 0
none_smaller m [] h = refl
none_smaller m (n ∷ ns) h =
    count_by-cons (λ x. ltb x m) n ns ∙ ap (λ b. cond b 1 0 + smaller m ns) (not_lt n m h.0) ∙ omega (arith, none_smaller m ns h.1)
  where
    not_lt : (a b : ℕ) → b ≤ a → ltb a b ≡ false
    not_lt a b le = ⊎_elim (λ e. absurd (omega (arith, ltb-true a b e))) (λ e. e) (cases_Bool (ltb a b))

AtLeast-get_or : (m : ℕ) (ns : List ℕ) (i : ℕ) → AtLeast m ns → i < length ns → m ≤ get_or ns i 0
AtLeast-get_or m [] i h l = absurd (omega arith)
AtLeast-get_or m (n ∷ ns) zero h l = h.0
AtLeast-get_or m (n ∷ ns) (suc i) h l = AtLeast-get_or m ns i h.1 (omega arith)

record Splits (ns : List ℕ) (i : ℕ) : Type 0 where
  below : smaller (get_or ns i 0) ns ≤ i
  upto : i < not_greater (get_or ns i 0) ns

Rises-splits : (ns : List ℕ) (i : ℕ) → Rises ns → i < length ns → Splits ns i
Rises-splits [] i r h = absurd (omega arith)
Rises-splits (n ∷ ns) zero r h =
    let none : smaller n (n ∷ ns) ≡ 0 = none_smaller n (n ∷ ns) (omega arith, r.0) in
    let some : not_greater n (n ∷ ns) ≡ 1 + not_greater n ns = count_by-cons (λ x. leb x n) n ns ∙ ap (λ b. cond b 1 0 + not_greater n ns) (le-leb n n (omega arith)) in
    record { below = omega arith; upto = omega arith }
Rises-splits (n ∷ ns) (suc i) r h =
    let v = get_or ns i 0 in
    let tail : Splits ns i = Rises-splits ns i r.1 (omega arith) in
    let le : n ≤ v = AtLeast-get_or n ns i r.0 (omega arith) in
    let fewer : smaller v (n ∷ ns) ≤ 1 + smaller v ns = omega (arith, count_by-cons (λ x. ltb x v) n ns, cond_le (ltb n v)) in
    let more : not_greater v (n ∷ ns) ≡ 1 + not_greater v ns = count_by-cons (λ x. leb x v) n ns ∙ ap (λ b. cond b 1 0 + not_greater v ns) (le-leb n v le) in
    record { below = omega (arith, tail.below); upto = omega (arith, tail.upto) }
  where
    cond_le : (b : Bool) → cond b 1 0 ≤ 1
    cond_le true = omega arith
    cond_le false = omega arith

pub IsMedian-middle : (ns zs : List ℕ) → IsPermutation ns zs → Rises zs → 0 < length ns → IsMedian ns (get_or zs ((length zs - 1) / 2) 0)
IsMedian-middle ns zs p r h =
    let i = (length zs - 1) / 2 in
    let v = get_or zs i 0 in
    let n : length zs ≡ length ns = length_permutation ns zs p in
    let at : i < length zs = omega arith in
    let s : Splits zs i = Rises-splits zs i r at in
    let fewer : smaller v zs ≡ smaller v ns = sum_by-IsPermutation (λ x. cond (ltb x v) 1 0) ns zs p in
    let more : not_greater v zs ≡ not_greater v ns = sum_by-IsPermutation (λ x. cond (leb x v) 1 0) ns zs p in
    record {
      among = Contains-permutation zs ns v (IsPermutation-sym ns zs p) (Contains-get_or zs i 0 at);
      fewer_smaller = omega (arith, s.below);
      enough_not_greater = omega (arith, s.upto);
    }

AtLeast-from : (m : ℕ) (ns : List ℕ) → ((i : ℕ) → i < length ns → m ≤ get_or ns i 0) → AtLeast m ns
AtLeast-from m [] h = tt
AtLeast-from m (n ∷ ns) h = (h 0 (omega arith), AtLeast-from m ns (λ i l. h (suc i) (omega arith)))

pub Rises-from : (ns : List ℕ) → ((i j : ℕ) → i ≤ j → j < length ns → get_or ns i 0 ≤ get_or ns j 0) → Rises ns
Rises-from [] h = tt
Rises-from (n ∷ ns) h =
    (AtLeast-from n ns (λ i l. h 0 (suc i) (omega arith) (omega arith)), Rises-from ns (λ i j a b. h (suc i) (suc j) (omega arith) (omega arith)))

-- ---- a list that is not empty has a lower median
abbrev put : ℕ → List ℕ → List ℕ
put n [] = n ∷ []
put n (m ∷ ms) = cond (leb n m) (n ∷ m ∷ ms) (m ∷ put n ms)

abbrev sorted : List ℕ → List ℕ
sorted [] = []
sorted (n ∷ ns) = put n (sorted ns)

put-permutation : (n : ℕ) (ms : List ℕ) → IsPermutation (n ∷ ms) (put n ms)
put-permutation n [] = IsPermutation-refl (n ∷ [])
put-permutation n (m ∷ ms) =
    pick (leb n m) (IsPermutation-trans (n ∷ m ∷ ms) (m ∷ n ∷ ms) (m ∷ put n ms) (IsPermutation-sym (m ∷ n ∷ ms) (n ∷ m ∷ ms) (IsPermutation-middle (m ∷ []) n ms)) (IsPermutation-cons m (n ∷ ms) (put n ms) (put-permutation n ms)))
  where
    pick : (b : Bool) → IsPermutation (n ∷ m ∷ ms) (m ∷ put n ms) → IsPermutation (n ∷ m ∷ ms) (cond b (n ∷ m ∷ ms) (m ∷ put n ms))
    pick true h = IsPermutation-refl (n ∷ m ∷ ms)
    pick false h = h

sorted-permutation : (ns : List ℕ) → IsPermutation ns (sorted ns)
sorted-permutation [] = IsPermutation-refl []
sorted-permutation (n ∷ ns) =
    IsPermutation-trans (n ∷ ns) (n ∷ sorted ns) (put n (sorted ns)) (IsPermutation-cons n ns (sorted ns) (sorted-permutation ns)) (put-permutation n (sorted ns))

AtLeast-le : (m n : ℕ) (ns : List ℕ) → m ≤ n → AtLeast n ns → AtLeast m ns
AtLeast-le m n [] h a = tt
AtLeast-le m n (k ∷ ns) h a = (omega (arith, a.0), AtLeast-le m n ns h a.1)

AtLeast-put : (m n : ℕ) (ns : List ℕ) → m ≤ n → AtLeast m ns → AtLeast m (put n ns)
AtLeast-put m n [] h a = (h, tt)
AtLeast-put m n (k ∷ ns) h a = pick (leb n k) (AtLeast-put m n ns h a.1)
  where
    pick : (b : Bool) → AtLeast m (put n ns) → AtLeast m (cond b (n ∷ k ∷ ns) (k ∷ put n ns))
    pick true t = (h, a)
    pick false t = (a.0, t)

Rises-put : (n : ℕ) (ms : List ℕ) → Rises ms → Rises (put n ms)
Rises-put n [] r = (tt, tt)
Rises-put n (m ∷ ms) r = pick (leb n m) refl (Rises-put n ms r.1)
  where
    pick : (b : Bool) → leb n m ≡ b → Rises (put n ms) → Rises (cond b (n ∷ m ∷ ms) (m ∷ put n ms))
    pick true e t = let le : n ≤ m = leb-true n m e in ((le, AtLeast-le n m ms le r.0), r)
    pick false e t =
        let le : m ≤ n = omega (arith, leb-false n m e) in (AtLeast-put m n ms le r.0, t)

Rises-sorted : (ns : List ℕ) → Rises (sorted ns)
Rises-sorted [] = tt
Rises-sorted (n ∷ ns) = Rises-put n (sorted ns) (Rises-sorted ns)

pub IsMedian-median : (ns : List ℕ) → 0 < length ns → IsMedian ns (median ns)
IsMedian-median ns h =
    let m = IsMedian-middle ns (sorted ns) (sorted-permutation ns) (Rises-sorted ns) h in
    subst (IsMedian ns) (sym (median-IsMedian ns _ m)) m

-- ---- it is monotone
-- each number of the second list is no smaller than the one of the first in its place
abbrev pub AllLe : List ℕ → List ℕ → Type 0
AllLe [] [] = Unit {0}
AllLe [] (n ∷ ns) = ⊥
AllLe (m ∷ ms) [] = ⊥
AllLe (m ∷ ms) (n ∷ ns) = (m ≤ n) × AllLe ms ns

pub length-AllLe : (ms ns : List ℕ) → AllLe ms ns → length ms ≡ length ns
length-AllLe [] [] h = refl
length-AllLe [] (n ∷ ns) h = absurd h
length-AllLe (m ∷ ms) [] h = absurd h
length-AllLe (m ∷ ms) (n ∷ ns) h = ap suc (length-AllLe ms ns h.1)

not_greater-le-smaller-AllLe : (ms ns : List ℕ) (v w : ℕ) → AllLe ms ns → w < v → not_greater w ns ≤ smaller v ms
not_greater-le-smaller-AllLe [] [] v w h l = omega arith
not_greater-le-smaller-AllLe [] (n ∷ ns) v w h l = absurd h
not_greater-le-smaller-AllLe (m ∷ ms) [] v w h l = absurd h
not_greater-le-smaller-AllLe (m ∷ ms) (n ∷ ns) v w h l =
    omega (arith, count_by-cons (λ x. leb x w) n ns, count_by-cons (λ x. ltb x v) m ms, one_le (leb n w) (ltb m v) (λ e. lt-ltb m v (omega (arith, leb-true n w e, h.0))), not_greater-le-smaller-AllLe ms ns v w h.1 l)

pub median-AllLe : (ms ns : List ℕ) → AllLe ms ns → median ms ≤ median ns
median-AllLe [] [] h = omega arith
median-AllLe [] (n ∷ ns) h = absurd h
median-AllLe (m ∷ ms) [] h = absurd h
median-AllLe (m ∷ ms) (n ∷ ns) h =
    let a = IsMedian-median (m ∷ ms) (omega arith) in
    let b = IsMedian-median (n ∷ ns) (omega arith) in
    let same : length (m ∷ ms) ≡ length (n ∷ ns) = length-AllLe (m ∷ ms) (n ∷ ns) h in
    let middles : middle (length (m ∷ ms)) ≡ middle (length (n ∷ ns)) = ap middle same in
    ⊎_elim (λ l. absurd (omega (arith, a.fewer_smaller, b.enough_not_greater, middles, not_greater-le-smaller-AllLe (m ∷ ms) (n ∷ ns) (median (m ∷ ms)) (median (n ∷ ns)) h l))) (λ l. l) (cases_lt (median (n ∷ ns)) (median (m ∷ ms)))
