-- Names that are there, names that come last, and lists with each member once.
use Rattle.std.proofs.Common.{◌≡◌, ℕ, suc, ◌+◌, ◌<◌, ◌≤◌, Bool, true, false, cond, not, ◌||◌, nat_lt, List, [], ◌∷◌, ◌++◌, length, Some, None, refl, sym, ap, subst, ⊎_elim, ◌∙◌, arith, ◌≢◌, zero, get_or, append_assoc}
use Rattle.std.specs.List.{list_any, position, prefix_len, AllPairs}
use Rattle.std.specs.Global.{Vec}
use Rattle.std.specs.Str.{bytes_eq}
use Rattle.std.proofs.lemmas.Bool.{cond-true, cond-false, false≢true, or_cases, or_left, or_right, or_from, ltb-true, ltb-false, false_from_ne_true, or_parts}
use Rattle.std.proofs.lemmas.List.{length-append, append-nil}
use Rattle.std.proofs.lemmas.List.Quantifiers.{all_pairs_push}
use Rattle.std.proofs.lemmas.Slice.Eq.{bytes_eq-Decides}
use Rattle.query_text.specs.Bytes.{bytes_of}
use Rattle.query_text.specs.Pieces.{with_member, Piece, names_in, each_once_after}
use Rattle.query_text.specs.Query.{name_of}

pub same_bytes : (xs ys : List ℕ) → bytes_eq xs ys ≡ true → xs ≡ ys
same_bytes xs ys h = (bytes_eq-Decides xs ys).0 h

pub bytes_same : (xs ys : List ℕ) → xs ≡ ys → bytes_eq xs ys ≡ true
bytes_same xs ys h = (bytes_eq-Decides xs ys).1 h

-- what holds of each member
abbrev pub Each : {A : Type 0} → (A → Type 0) → List A → Type 0
Each P [] = Unit {0}
Each P (x ∷ xs) = P x × Each P xs

-- what holds of each word of a table holds of a word that is in it
pub any_same : (P : List ℕ → Type 0) (w : List ℕ) (ws : List (List ℕ)) → Each P ws → list_any (bytes_eq w) ws ≡ true → P w
any_same P w [] each h = absurd (false≢true h)
any_same P w (v ∷ ws) each h =
    ⊎_elim (λ e. subst P (sym (same_bytes w v e)) each.0) (λ e. any_same P w ws each.1 e) (or_cases (bytes_eq w v) (list_any (bytes_eq w) ws) h)

pub names_in-append : (ps qs : List Piece) → names_in (ps ++ qs) ≡ names_in ps ++ names_in qs
names_in-append [] qs = refl
names_in-append (Piece.fixed t ∷ ps) qs = names_in-append ps qs
names_in-append (Piece.number l m d ∷ ps) qs = names_in-append ps qs
names_in-append (Piece.name t ∷ ps) qs = ap (λ z. t ∷ z) (names_in-append ps qs)

pub once-append : {A : Type 0} (same : A → A → Bool) (seen xs ys : List A)
    → each_once_after same seen (xs ++ ys) ≡ each_once_after same (each_once_after same seen xs) ys
once-append same seen [] ys = refl
once-append same seen (x ∷ xs) ys = once-append same (with_member same seen x) xs ys

-- members are added at the end
pub once-extends : {A : Type 0} (same : A → A → Bool) (seen xs : List A) → (extra : List A) × (each_once_after same seen xs ≡ seen ++ extra)
once-extends same seen [] = ([], sym (append-nil seen))
once-extends same seen (x ∷ xs) =
    let r = once-extends same (with_member same seen x) xs in
    let s = member_extends (list_any (same x) seen) in
    (s.0 ++ r.0, r.1 ∙ (ap (λ z. z ++ r.0) s.1 ∙ append_assoc seen s.0 r.0))
  where
    member_extends : (b : Bool) → (extra : List _) × (cond b seen (seen ++ x ∷ []) ≡ seen ++ extra)
    member_extends true = ([], sym (append-nil seen))
    member_extends false = (x ∷ [], refl)

-- different members
lacks : (y : List ℕ) (xs : List (List ℕ)) → list_any (bytes_eq y) xs ≡ false → (k : ℕ) (d : List ℕ) → k < length xs → get_or xs k d ≢ y
lacks y [] h k d l e = absurd (omega arith)
lacks y (x ∷ xs) h zero d l e = false≢true (sym (or_parts (bytes_eq y x) _ h).0 ∙ bytes_same y x (sym e))
lacks y (x ∷ xs) h (suc k) d l e = lacks y xs (or_parts (bytes_eq y x) _ h).1 k d (omega arith) e

pub once_different : (seen xs : List (List ℕ)) → AllPairs ◌≢◌ seen → AllPairs ◌≢◌ (each_once_after bytes_eq seen xs)
once_different seen [] h = h
once_different seen (x ∷ xs) h = once_different (with_member bytes_eq seen x) xs (kept (list_any (bytes_eq x) seen) refl)
  where
    kept : (b : Bool) → list_any (bytes_eq x) seen ≡ b → AllPairs ◌≢◌ (cond b seen (seen ++ x ∷ []))
    kept true e = h
    kept false e = all_pairs_push ◌≢◌ seen x h (λ k d l. lacks x seen e k d l)

pub no_pairs : AllPairs {X = List ℕ} ◌≢◌ []
no_pairs = λ i j d l m. absurd (omega arith)

-- how many names stand before a word
abbrev before : List (Vec ℕ) → List ℕ → ℕ
before xs w = prefix_len (λ x. not (bytes_eq x.items w)) xs

swapped : (x w : List ℕ) → bytes_eq x w ≡ false → bytes_eq w x ≡ false
swapped x w h = false_from_ne_true _ (λ e. false≢true (sym h ∙ bytes_same x w (sym (same_bytes w x e))))

found_before : (xs : List (Vec ℕ)) (w : List ℕ) → before xs w < length xs
    → (list_any (bytes_eq w) (bytes_of xs) ≡ true) × ((more : List (List ℕ)) → name_of (bytes_of xs ++ more) (before xs w) ≡ w)
found_before [] w l = absurd (omega arith)
found_before (x ∷ xs) w l = by_test (bytes_eq x.items w) refl l (λ k. found_before xs w k)
  where
    by_test : (b : Bool) → bytes_eq x.items w ≡ b → cond (not b) (1 + before xs w) 0 < suc (length xs)
        → (before xs w < length xs → (list_any (bytes_eq w) (bytes_of xs) ≡ true) × ((more : List (List ℕ)) → name_of (bytes_of xs ++ more) (before xs w) ≡ w))
        → ((bytes_eq w x.items || list_any (bytes_eq w) (bytes_of xs)) ≡ true) × ((more : List (List ℕ)) → name_of (x.items ∷ (bytes_of xs ++ more)) (cond (not b) (1 + before xs w) 0) ≡ w)
    by_test true is l later =
        let e : x.items ≡ w = same_bytes x.items w is in
        (or_left _ _ (bytes_same w x.items (sym e)), λ more. e)
    by_test false is l later =
        let r = later (omega arith) in
        let one : 1 + before xs w ≡ suc (before xs w) = omega arith in
        (or_right _ _ r.0, λ more. ap (name_of (x.items ∷ (bytes_of xs ++ more))) one ∙ r.1 more)

lacks_before : (xs : List (Vec ℕ)) (w : List ℕ) → length xs ≤ before xs w → list_any (bytes_eq w) (bytes_of xs) ≡ false
lacks_before [] w l = refl
lacks_before (x ∷ xs) w l = by_test (bytes_eq x.items w) refl l (λ k. lacks_before xs w k)
  where
    by_test : (b : Bool) → bytes_eq x.items w ≡ b → suc (length xs) ≤ cond (not b) (1 + before xs w) 0
        → (length xs ≤ before xs w → list_any (bytes_eq w) (bytes_of xs) ≡ false) → (bytes_eq w x.items || list_any (bytes_eq w) (bytes_of xs)) ≡ false
    by_test true is l later = absurd (omega arith)
    by_test false is l later = or_from _ _ (swapped x.items w is) (later (omega arith))

some_is : (n m i : ℕ) → cond (nat_lt n m) (Some n) None ≡ Some i → (n < m) × (n ≡ i)
some_is n m i h = by_test (nat_lt n m) refl h
  where
    by_test : (b : Bool) → nat_lt n m ≡ b → cond b (Some n) None ≡ Some i → (n < m) × (n ≡ i)
    by_test true is h = (ltb-true n m is, cc)
    by_test false is h = absurd cc

pub none_is : (n m : ℕ) → cond (nat_lt n m) (Some n) None ≡ None → m ≤ n
none_is n m h = by_test (nat_lt n m) refl h
  where
    by_test : (b : Bool) → nat_lt n m ≡ b → cond b (Some n) None ≡ None → m ≤ n
    by_test true is h = absurd cc
    by_test false is h = ltb-false n m is

-- a word that is a name already
pub known_member : (xs : List (Vec ℕ)) (w : List ℕ) (i : ℕ) → position (λ x. bytes_eq x.items w) xs ≡ Some i
    → bytes_of xs ≡ with_member bytes_eq (bytes_of xs) w
known_member xs w i h =
    let s = some_is (before xs w) (length xs) i h in
    sym (cond-true _ _ _ (found_before xs w s.0).0)

pub known_name : (xs : List (Vec ℕ)) (w : List ℕ) (i : ℕ) → position (λ x. bytes_eq x.items w) xs ≡ Some i → (more : List (List ℕ))
    → name_of (bytes_of xs ++ more) i ≡ w
known_name xs w i h more =
    let s = some_is (before xs w) (length xs) i h in
    ap (name_of (bytes_of xs ++ more)) (sym s.1) ∙ (found_before xs w s.0).1 more

-- a word that is no name yet
pub new_member : (xs : List (Vec ℕ)) (w : List ℕ) → position (λ x. bytes_eq x.items w) xs ≡ None → with_member bytes_eq (bytes_of xs) w ≡ bytes_of xs ++ w ∷ []
new_member xs w h = cond-false _ _ _ (lacks_before xs w (none_is (before xs w) (length xs) h))

pub length-bytes_of : (xs : List (Vec ℕ)) → length (bytes_of xs) ≡ length xs
length-bytes_of [] = refl
length-bytes_of (x ∷ xs) = ap suc (length-bytes_of xs)

pub new_longer : (xs : List (Vec ℕ)) (w : List ℕ) → position (λ x. bytes_eq x.items w) xs ≡ None → length (with_member bytes_eq (bytes_of xs) w) ≡ length xs + 1
new_longer xs w h = ap length (new_member xs w h) ∙ omega (arith, length-append (bytes_of xs) (w ∷ []), length-bytes_of xs)
