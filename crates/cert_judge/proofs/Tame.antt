-- Wild guesses, access by access, by the order of first sight.
use Rattle.std.specs.Prelude.{MatchOption}
use Rattle.std.proofs.Common.{◌≡◌, ◌≢◌, IsTrue, ◌↔◌, ℕ, ◌+◌, ◌-◌, ◌<◌, ◌≤◌, inl, inr, Bool, true, false, cond, not, nat_eq, nat_lt, List, [], ◌∷◌, ◌++◌, length, take, drop, get_or, All, AllPairs, Contains, Option, Some, None, position, slice_get, slice_index_or, refl, sym, ap, subst, ◌∙◌, arith, append_assoc, append-nil, eqb-true, eq-eqb, ◌⊎◌, length-append, take-append-drop}
use Rattle.std.specs.List.{position_from}
use Rattle.std.proofs.lemmas.Bool.{cases_Bool, cond-true, cond-false, lt-ltb, le-ltb, not-true, true≢false}
use Rattle.std.proofs.lemmas.List.{take_more, take_all}
use Rattle.std.proofs.lemmas.List.Elements.{Contains-push, Contains-push_cases, All-push}
use Rattle.std.proofs.lemmas.List.Kept.{AllPairs-cons}
use Rattle.std.proofs.lemmas.Iterator.Adapters.{position_from-zero}
use Rattle.topk_theory.specs.declared.access.Access.{Access}
use Rattle.topk_theory.specs.declared.access.Access.TheVariants.{Sorted, Random}
use Rattle.topk_theory.specs.Transcript.{IsTame, object_of, is_sorted, named_objects, seen_objects}
use Rattle.topk_theory.proofs.AgreementLists.{contains_nil, contains_here, contains_there, contains_cases, all_from_members, distinct_head, distinct_tail, front_next, slice_get_in_range, slice_get_reads}
use Rattle.topk_theory.proofs.AgreementNames.{has, has_contains, has_not}
use Rattle.topk_theory.proofs.Agreement.{contains_middle, named_objects_old, named_objects_new, seen_objects_old, seen_objects_new, seen_objects_random}
use Rattle.topk_theory.proofs.ThresholdRun.{tame_append}
use Rattle.cert_judge.specs.Deciding.{IsWildAfter, IsFirstWildGuess, IsFirstUnseen}
use Rattle.cert_judge.specs.Question.{seen_after, HasWalked}

-- the objects that are seen after some accesses are the first of those that are seen after more
pub seen_begins : (A B : List Access) → (rest : List ℕ) × (seen_objects (A ++ B) ≡ seen_objects A ++ rest)
seen_begins A [] = ([], ap seen_objects (append-nil A) ∙ sym (append-nil (seen_objects A)))
seen_begins A (a ∷ B) =
    let further = seen_begins (A ++ a ∷ []) B in
    let whole : seen_objects (A ++ a ∷ B) ≡ seen_objects (A ++ a ∷ []) ++ further.0 = ap seen_objects (sym (append_assoc A (a ∷ []) B)) ∙ further.1 in
    elim (one A a) [
      | inl e ↦ (further.0, whole ∙ ap (λ s. s ++ further.0) e)
      | inr e ↦ (object_of a ∷ further.0, whole ∙ ap (λ s. s ++ further.0) e ∙ append_assoc (seen_objects A) (object_of a ∷ []) further.0)
    ]
  where
    one : (A : List Access) (a : Access) → (seen_objects (A ++ a ∷ []) ≡ seen_objects A) ⊎ (seen_objects (A ++ a ∷ []) ≡ seen_objects A ++ object_of a ∷ [])
    one A (Random list object grade) = inl (seen_objects_random A list object grade)
    one A (Sorted list object grade) =
        elim (cases_Bool (has object (seen_objects A))) [
          | inl t ↦ inl (seen_objects_old A list object grade (has_contains object (seen_objects A) t))
          | inr f ↦ inr (seen_objects_new A list object grade (has_not object (seen_objects A) f))
        ]

-- the place of an object of the front is in the front, and that of another isn't
place_front : (o start : ℕ) (front rest : List ℕ) → Contains front o
    → (q : ℕ) × (position_from (nat_eq o) start (front ++ rest) ≡ Some q) × (q < start + length front)
place_front o start [] rest c = absurd (contains_nil o c)
place_front o start (x ∷ front) rest c =
    elim (cases_Bool (nat_eq o x)) [
      | inl t ↦ (start, cond-true (nat_eq o x) (Some start) (position_from (nat_eq o) (start + 1) (front ++ rest)) t, omega arith)
      | inr f ↦ elim (contains_cases x front o c) [
        | inl e ↦ absurd (true≢false (sym (eq-eqb o x (sym e)) ∙ f))
        | inr d ↦ let r = place_front o (start + 1) front rest d in
            let low = r.2 in
            (r.0, cond-false (nat_eq o x) (Some start) (position_from (nat_eq o) (start + 1) (front ++ rest)) f ∙ r.1, omega arith)
      ]
    ]

place_behind : (o start q : ℕ) (front rest : List ℕ) → (¬ Contains front o) → position_from (nat_eq o) start (front ++ rest) ≡ Some q → start + length front ≤ q
place_behind o start q [] rest n e = from_start o start q rest e
  where
    from_start : (o start q : ℕ) (xs : List ℕ) → position_from (nat_eq o) start xs ≡ Some q → start + 0 ≤ q
    from_start o start q [] e = absurd (cc)
    from_start o start q (x ∷ xs) e =
        elim (cases_Bool (nat_eq o x)) [
          | inl t ↦ let same : Some start ≡ Some q = sym (cond-true (nat_eq o x) (Some start) (position_from (nat_eq o) (start + 1) xs) t) ∙ e in
              let equal : start ≡ q = cc in omega arith
          | inr f ↦ let low : (start + 1) + 0 ≤ q = from_start o (start + 1) q xs (sym (cond-false (nat_eq o x) (Some start) (position_from (nat_eq o) (start + 1) xs) f) ∙ e) in omega arith
        ]
place_behind o start q (x ∷ front) rest n e =
    elim (cases_Bool (nat_eq o x)) [
      | inl t ↦ absurd (n (subst (λ z. Contains (x ∷ front) z) (sym (eqb-true o x t)) (contains_here x front)))
      | inr f ↦ let low : (start + 1) + length front ≤ q = place_behind o (start + 1) q front rest (λ c. n (contains_there x front o c))
          (sym (cond-false (nat_eq o x) (Some start) (position_from (nat_eq o) (start + 1) (front ++ rest)) f) ∙ e) in omega arith
    ]

-- what the count of seen objects becomes
after_known : (o : ℕ) (front rest : List ℕ) (sorted : Bool) → Contains front o
    → seen_after (position (nat_eq o) (front ++ rest)) (length front) sorted ≡ Some (length front)
after_known o front rest sorted c =
    let r = place_front o 0 front rest c in
    let low : r.0 < length front = omega (arith, r.2) in
    ap (λ p. seen_after p (length front) sorted) (position_from-zero (nat_eq o) (front ++ rest) ∙ r.1)
    ∙ cond-true (nat_lt r.0 (length front)) (Some (length front)) (cond sorted (Some (length front + 1)) None) (lt-ltb r.0 (length front) low)

after_behind : (o : ℕ) (front rest : List ℕ) (sorted : Bool) (q : ℕ) → (¬ Contains front o) → position_from (nat_eq o) 0 (front ++ rest) ≡ Some q
    → seen_after (position (nat_eq o) (front ++ rest)) (length front) sorted ≡ cond sorted (Some (length front + 1)) None
after_behind o front rest sorted q n e =
    let high : length front ≤ q = omega (arith, place_behind o 0 q front rest n e) in
    ap (λ p. seen_after p (length front) sorted) (position_from-zero (nat_eq o) (front ++ rest) ∙ e)
    ∙ cond-false (nat_lt q (length front)) (Some (length front)) (cond sorted (Some (length front + 1)) None) (le-ltb q (length front) high)

after_new : (o : ℕ) (front rest : List ℕ) → (¬ Contains front o)
    → seen_after (position (nat_eq o) (front ++ o ∷ rest)) (length front) true ≡ Some (length front + 1)
after_new o front rest n =
    let e : (front ++ o ∷ []) ++ rest ≡ front ++ o ∷ rest = append_assoc front (o ∷ []) rest in
    let r = place_front o 0 (front ++ o ∷ []) rest (Contains-push front o) in
    after_behind o front (o ∷ rest) true r.0 n (ap (position_from (nat_eq o) 0) (sym e) ∙ r.1)

after_wild : (o : ℕ) (front rest : List ℕ) → (¬ Contains front o) → seen_after (position (nat_eq o) (front ++ rest)) (length front) false ≡ None
after_wild o front rest n =
    elim (position_from (nat_eq o) 0 (front ++ rest)) as (λ p. position_from (nat_eq o) 0 (front ++ rest) ≡ p → seen_after (position (nat_eq o) (front ++ rest)) (length front) false ≡ None) [
      | None ↦ λ e. ap (λ p. seen_after p (length front) false) (position_from-zero (nat_eq o) (front ++ rest) ∙ e)
      | Some q ↦ λ e. after_behind o front rest false q n e
    ] refl

-- one more access of a tame transcript
pub record Follows (A : List Access) (a : Access) (after : Option ℕ) : Type 0 where
  pub goes_on : (s : ℕ) → after ≡ Some s → (s ≡ length (seen_objects (A ++ a ∷ []))) × (s ≤ length (seen_objects A) + 1) × IsTame (A ++ a ∷ [])
  pub stops : after ≡ None → IsWildAfter A a

some_is : (o : Option ℕ) (n s : ℕ) → o ≡ Some n → o ≡ Some s → n ≡ s
some_is o n s e f = let g : Some n ≡ Some s = sym e ∙ f in cc

not_none : {X : Type 0} → (o : Option ℕ) (n : ℕ) → o ≡ Some n → o ≡ None → X
not_none o n e f = let g : Some n ≡ None = sym e ∙ f in absurd (cc)

goes : (A : List Access) (a : Access) (after : Option ℕ) → after ≡ Some (length (seen_objects (A ++ a ∷ [])))
    → length (seen_objects (A ++ a ∷ [])) ≤ length (seen_objects A) + 1
    → IsTame (A ++ a ∷ []) → Follows A a after
goes A a after e few tame = record {
  goes_on = λ s f. let same : length (seen_objects (A ++ a ∷ [])) ≡ s = some_is after (length (seen_objects (A ++ a ∷ []))) s e f in
      (sym same, omega arith, tame);
  stops = λ f. not_none after (length (seen_objects (A ++ a ∷ []))) e f;
}

pub follows : (A B : List Access) (a : Access) → IsTame A
    → Follows A a (seen_after (position (nat_eq (object_of a)) (seen_objects (A ++ a ∷ B))) (length (seen_objects A)) (is_sorted a))
follows A B (Sorted list object grade) tame =
    let a : Access = Sorted list object grade in
    let calm : IsTame (A ++ a ∷ []) = tame_append A (a ∷ []) tame (λ l o g c. elim (contains_cases a [] (Random l o g) c) [ inl e ↦ absurd (cc) | inr d ↦ absurd (contains_nil (Random l o g) d) ]) in
    let further = seen_begins (A ++ a ∷ []) B in
    let whole : seen_objects (A ++ a ∷ B) ≡ seen_objects (A ++ a ∷ []) ++ further.0 = ap seen_objects (sym (append_assoc A (a ∷ []) B)) ∙ further.1 in
    elim (cases_Bool (has object (seen_objects A))) [
      | inl t ↦ let old = seen_objects_old A list object grade (has_contains object (seen_objects A) t) in
          let kept : length (seen_objects (A ++ a ∷ [])) ≡ length (seen_objects A) = ap length old in
          goes A a _ (ap (λ s. seen_after (position (nat_eq object) s) (length (seen_objects A)) true) (whole ∙ ap (λ s. s ++ further.0) old)
          ∙ after_known object (seen_objects A) further.0 true (has_contains object (seen_objects A) t) ∙ ap Some (sym kept)) (omega arith) calm
      | inr f ↦ let new = seen_objects_new A list object grade (has_not object (seen_objects A) f) in
          let more : length (seen_objects (A ++ a ∷ [])) ≡ length (seen_objects A) + 1 = ap length new ∙ length-append (seen_objects A) (object ∷ []) in
          goes A a _ (ap (λ s. seen_after (position (nat_eq object) s) (length (seen_objects A)) true) (whole ∙ ap (λ s. s ++ further.0) new ∙ append_assoc (seen_objects A) (object ∷ []) further.0)
          ∙ after_new object (seen_objects A) further.0 (has_not object (seen_objects A) f) ∙ ap Some (sym more)) (omega arith) calm
    ]
follows A B (Random list object grade) tame =
    let a : Access = Random list object grade in
    let same : seen_objects (A ++ a ∷ []) ≡ seen_objects A = seen_objects_random A list object grade in
    let further = seen_begins A (a ∷ B) in
    let kept : length (seen_objects (A ++ a ∷ [])) ≡ length (seen_objects A) = ap length same in
    elim (cases_Bool (has object (seen_objects A))) [
      | inl t ↦
          let known : Contains (seen_objects A) object = has_contains object (seen_objects A) t in
          let calm : IsTame (A ++ a ∷ []) = tame_append A (a ∷ []) tame (λ l o g c. elim (contains_cases a [] (Random l o g) c) [
            | inl e ↦ subst (λ z. Contains (seen_objects A) (object_of z)) e known
            | inr d ↦ absurd (contains_nil (Random l o g) d)
          ]) in
          goes A a _ (ap (λ s. seen_after (position (nat_eq object) s) (length (seen_objects A)) false) further.1
          ∙ after_known object (seen_objects A) further.0 false known ∙ ap Some (sym kept)) (omega arith) calm
      | inr f ↦
          let none : seen_after (position (nat_eq object) (seen_objects (A ++ a ∷ B))) (length (seen_objects A)) false ≡ None =
          ap (λ s. seen_after (position (nat_eq object) s) (length (seen_objects A)) false) further.1
          ∙ after_wild object (seen_objects A) further.0 (has_not object (seen_objects A) f) in
          record {
            goes_on = λ s e. not_none _ s e none;
            stops = λ e. record { random = refl; unseen = has_not object (seen_objects A) f };
          }
    ]

-- an access at a place parts the transcript
parted : (A : List Access) (place : ℕ) (a : Access) → slice_get A place ≡ Some a → A ≡ take place A ++ a ∷ drop (place + 1) A
parted A place a e =
    let l : place < length A = slice_get_in_range A place a e in
    let read : slice_index_or A place a ≡ a = slice_get_reads A place a a e in
    sym (take-append-drop (place + 1) A) ∙ ap (λ s. s ++ drop (place + 1) A) (take_more A place a l ∙ ap (λ z. take place A ++ z ∷ []) read)
    ∙ append_assoc (take place A) (a ∷ []) (drop (place + 1) A)

-- a step of the walk
pub steps : (A : List Access) (place seen : ℕ) (a : Access) (sight : Option ℕ) (sorted : Bool) (after : Option ℕ) → IsTame (take place A)
    → seen ≡ length (seen_objects (take place A)) → slice_get A place ≡ Some a → sight ≡ position (nat_eq (object_of a)) (seen_objects A) → sorted ≡ is_sorted a
    → after ≡ seen_after sight seen sorted → Follows (take place A) a after
steps A place seen a sight sorted after tame count at place_is kind e =
    subst (λ z. Follows (take place A) a z)
    (sym (e ∙ ap (λ p. seen_after p seen sorted) place_is ∙ ap (λ n. seen_after (position (nat_eq (object_of a)) (seen_objects A)) n sorted) count
    ∙ ap (λ b. seen_after (position (nat_eq (object_of a)) (seen_objects A)) (length (seen_objects (take place A))) b) kind
    ∙ ap (λ B. seen_after (position (nat_eq (object_of a)) (seen_objects B)) (length (seen_objects (take place A))) (is_sorted a)) (parted A place a at)))
    (follows (take place A) (drop (place + 1) A) a tame)

pub walks_on : (A : List Access) (place s : ℕ) (a : Access) (after : Option ℕ) → slice_get A place ≡ Some a → Follows (take place A) a after → after ≡ Some s
    → (s ≡ length (seen_objects (take (place + 1) A))) × (s ≤ length (seen_objects (take place A)) + 1) × IsTame (take (place + 1) A)
walks_on A place s a after at h e =
    let r = h.goes_on s e in
    (r.0 ∙ ap (λ B. length (seen_objects B)) (front_next A place a at), r.1, subst IsTame (front_next A place a at) r.2)

pub wild_here : (A : List Access) (place : ℕ) (a : Access) (after : Option ℕ) → slice_get A place ≡ Some a → IsTame (take place A)
    → Follows (take place A) a after → after ≡ None
    → IsFirstWildGuess A (place + 1)
wild_here A place a after at tame h e =
    let back : place + 1 - 1 ≡ place = omega arith in
    record {
      numbered = omega arith;
      tame_before = subst (λ p. IsTame (take p A)) (sym back) tame;
      guess = (a, subst (λ p. slice_get A p ≡ Some a) (sym back) at, subst (λ p. IsWildAfter (take p A) a) (sym back) (h.stops e));
    }

-- a tame transcript names what it sees, in the same order
named_along : (A B : List Access) → named_objects A ≡ seen_objects A → IsTame (A ++ B) → named_objects (A ++ B) ≡ seen_objects (A ++ B)
named_along A [] same tame = ap named_objects (append-nil A) ∙ same ∙ ap seen_objects (sym (append-nil A))
named_along A (b ∷ B) same tame =
    let e : (A ++ b ∷ []) ++ B ≡ A ++ b ∷ B = append_assoc A (b ∷ []) B in
    subst (λ C. named_objects C ≡ seen_objects C) e (named_along (A ++ b ∷ []) B (one A B b same tame) (subst IsTame (sym e) tame))
  where
    one : (A B : List Access) (b : Access) → named_objects A ≡ seen_objects A → IsTame (A ++ b ∷ B) → named_objects (A ++ b ∷ []) ≡ seen_objects (A ++ b ∷ [])
    one A B (Random list object grade) same tame =
        named_objects_old A (Random list object grade) (subst (λ s. Contains s object) (sym same) (tame A B list object grade refl)) ∙ same ∙ sym (seen_objects_random A list object grade)
    one A B (Sorted list object grade) same tame =
        elim (cases_Bool (has object (seen_objects A))) [
          | inl t ↦ let c = has_contains object (seen_objects A) t in
              named_objects_old A (Sorted list object grade) (subst (λ s. Contains s object) (sym same) c) ∙ same ∙ sym (seen_objects_old A list object grade c)
          | inr f ↦ let n = has_not object (seen_objects A) f in
              named_objects_new A (Sorted list object grade) (λ c. n (subst (λ s. Contains s object) same c)) ∙ ap (λ s. s ++ object ∷ []) same ∙ sym (seen_objects_new A list object grade n)
        ]

pub named_is_seen : (A : List Access) → IsTame A → named_objects A ≡ seen_objects A
named_is_seen A tame = named_along [] A refl tame

pub tame_none : IsTame []
tame_none [] later list object grade e = absurd (cc)
tame_none (a ∷ earlier) later list object grade e = absurd (cc)

pub walked : (A : List Access) (place seen : ℕ) (a : Access) (sight : Option ℕ) (sorted : Bool) (after : Option ℕ) → HasWalked A place seen
    → slice_get A place ≡ Some a → sight ≡ position (nat_eq (object_of a)) (seen_objects A) → sorted ≡ is_sorted a → after ≡ seen_after sight seen sorted
    → MatchOption after (IsFirstWildGuess A (place + 1)) (HasWalked A (place + 1))
walked A place seen a sight sorted after h at where_is kind e =
    let next = steps A place seen a sight sorted after h.tame h.count at where_is kind e in
    elim after as (λ o. after ≡ o → MatchOption o (IsFirstWildGuess A (place + 1)) (HasWalked A (place + 1))) [
      | None ↦ λ f. wild_here A place a after at h.tame next f
      | Some s ↦ λ f.
          let on = walks_on A place s a after at next f in
          let few : seen ≤ place = h.few in
          let count : seen ≡ length (seen_objects (take place A)) = h.count in
          let more : s ≤ length (seen_objects (take place A)) + 1 = on.1 in
          record { tame = on.2; count = on.0; few = omega arith }
    ] refl

pub walked_none : (A : List Access) → HasWalked A 0 0
walked_none A = record { tame = tame_none; count = refl; few = omega arith }

pub walked_all : (A : List Access) (place seen : ℕ) → length A ≤ place → HasWalked A place seen → IsTame A
walked_all A place seen l h = subst IsTame (take_all place A l) h.tame

-- the objects of an answer, one after another
pub comes_twice : (front rest : List ℕ) (y : ℕ) → Contains front y → ¬ AllPairs (λ (a : ℕ) (b : ℕ). a ≢ b) (front ++ y ∷ rest)
comes_twice [] rest y c = λ d. contains_nil y c
comes_twice (x ∷ front) rest y c = λ d.
    elim (contains_cases x front y c) [
      | inl e ↦ distinct_head x (front ++ y ∷ rest) y d (contains_middle front y rest) e
      | inr t ↦ comes_twice front rest y t (distinct_tail x (front ++ y ∷ rest) d)
    ]

pub next_distinct : (xs : List ℕ) (y : ℕ) → AllPairs (λ (a : ℕ) (b : ℕ). a ≢ b) xs → (¬ Contains xs y) → AllPairs (λ (a : ℕ) (b : ℕ). a ≢ b) (xs ++ y ∷ [])
next_distinct [] y d n = λ i j e l m. absurd (omega arith)
next_distinct (x ∷ xs) y d n =
    AllPairs-cons (λ (a : ℕ) (b : ℕ). a ≢ b) x (xs ++ y ∷ [])
    (all_from_members (λ b. x ≢ b) (xs ++ y ∷ []) (λ z c. elim (Contains-push_cases xs y z c) [
      | inl t ↦ distinct_head x xs z d t
      | inr e ↦ λ same. n (subst (λ w. Contains (x ∷ xs) w) (same ∙ sym e) (contains_here x xs))
    ]))
    (next_distinct xs y (distinct_tail x xs d) (λ c. n (contains_there x xs y c)))

split_at : (Y : List ℕ) (i : ℕ) → i < length Y → Y ≡ take i Y ++ get_or Y i 0 ∷ drop (i + 1) Y
split_at Y i l =
    sym (take-append-drop (i + 1) Y) ∙ ap (λ s. s ++ drop (i + 1) Y) (take_more Y i 0 l) ∙ append_assoc (take i Y) (get_or Y i 0 ∷ []) (drop (i + 1) Y)

pub repeats : (Y : List ℕ) (i : ℕ) (is_new : Bool) (kept : List ℕ) → i < length Y → kept ≡ take i Y → is_new ≡ not (has (get_or Y i 0) kept) → is_new ≡ false
    → ¬ AllPairs (λ (a : ℕ) (b : ℕ). a ≢ b) Y
repeats Y i is_new kept l e test old = λ d.
    let there : has (get_or Y i 0) (take i Y) ≡ true = not-false (has (get_or Y i 0) (take i Y)) (sym (test ∙ ap (λ s. not (has (get_or Y i 0) s)) e) ∙ old) in
    comes_twice (take i Y) (drop (i + 1) Y) (get_or Y i 0) (has_contains (get_or Y i 0) (take i Y) there) (subst (λ s. AllPairs (λ (a : ℕ) (b : ℕ). a ≢ b) s) (split_at Y i l) d)
  where
    not-false : (b : Bool) → not b ≡ false → b ≡ true
    not-false true e = refl
    not-false false e = absurd (true≢false e)

pub keeps_new : (Y : List ℕ) (i : ℕ) (is_new : Bool) (kept after : List ℕ) → i < length Y → kept ≡ take i Y → AllPairs (λ (a : ℕ) (b : ℕ). a ≢ b) (take i Y)
    → is_new ≡ not (has (get_or Y i 0) kept) → is_new ≡ true → after ≡ cond (has (get_or Y i 0) kept) kept (kept ++ get_or Y i 0 ∷ [])
    → (after ≡ take (i + 1) Y) × AllPairs (λ (a : ℕ) (b : ℕ). a ≢ b) (take (i + 1) Y)
keeps_new Y i is_new kept after l e d test new added =
    let y = get_or Y i 0 in
    let absent : has y kept ≡ false = not-true (has y kept) (sym test ∙ new) in
    let front : take (i + 1) Y ≡ take i Y ++ y ∷ [] = take_more Y i 0 l in (
      added ∙ cond-false (has y kept) kept (kept ++ y ∷ []) absent ∙ ap (λ s. s ++ y ∷ []) e ∙ sym front,
      subst (λ s. AllPairs (λ (a : ℕ) (b : ℕ). a ≢ b) s) (sym front) (next_distinct (take i Y) y d (has_not y (take i Y) (ap (has y) (sym e) ∙ absent))),
    )

-- the first unseen object
pub unseen_at : (A : List Access) (Y : List ℕ) (i : ℕ) → i < length Y → All (Contains (seen_objects A)) (take i Y)
    → (¬ Contains (seen_objects A) (get_or Y i 0))
    → IsFirstUnseen A Y (get_or Y i 0)
unseen_at A Y i l before n = (take i Y, drop (i + 1) Y, split_at Y i l, before, n)

pub seen_more_of : (S Y : List ℕ) (i : ℕ) → i < length Y → All (Contains S) (take i Y) → Contains S (get_or Y i 0) → All (Contains S) (take (i + 1) Y)
seen_more_of S Y i l before c = subst (All (Contains S)) (sym (take_more Y i 0 l)) (All-push (Contains S) (take i Y) (get_or Y i 0) before c)

-- what a test tells
pub told : (b : Bool) (P : Type 0) → IsTrue b ↔ P → b ≡ true → P
told b P tells e = tells.0 e

pub untold : (b : Bool) (P : Type 0) → IsTrue b ↔ P → b ≡ false → ¬ P
untold b P tells e = λ p. true≢false (sym (tells.1 p) ∙ e)
