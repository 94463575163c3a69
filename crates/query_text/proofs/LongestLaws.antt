-- The longest front of a text that begins a word.
use Rattle.std.proofs.Common.{◌≡◌, ℕ, zero, suc, ◌+◌, ◌<◌, ◌≤◌, Bool, true, false, cond, ◌&&◌, ◌||◌, eqb, List, [], ◌∷◌, ◌++◌, length, get_or, take, drop, max, min, is_some, refl, sym, ap, ◌∙◌, subst, ⊎_elim, arith, eq-eqb, ne_eqb, add-one, ◌⊎◌, inl, inr}
use Rattle.std.specs.List.{list_all, prefix_len}
use Rattle.std.specs.Str.{all_ascii_digits}
use Rattle.std.specs.Char.{is_ascii_digit, is_ascii_alphabetic}
use Rattle.std.proofs.lemmas.Bool.{and_from, and_left, and_right, or_cases, or_left, or_right, or_parts, or_from, false≢true, cond-false, cases_lt, false_from_ne_true, lt-ltb, le-ltb}
use Rattle.std.proofs.lemmas.List.{take_more, length-take}
use Rattle.topk_base.specs.Numbers.{is_empty}
use Rattle.topk_base.specs.Names.{is_name, is_name_byte}
use Rattle.topk_base.proofs.NumberLaws.{list_all_digits}
use Rattle.query_text.specs.Words.{Class, opened_by, is_front, begins, IsLongest, IsLongestName}
use Rattle.query_text.proofs.WordLaws.{begins-closed, opened_word}
use Rattle.query_text.proofs.CompleteLaws.{opening_ends}

assoc : (a b c : Bool) → (a && (b && c)) ≡ ((a && b) && c)
assoc true b c = refl
assoc false b c = refl

-- one byte more
front_suc : (i : ℕ) (text word : List ℕ) → i < length text → i < length word
    → is_front (take (suc i) text) word ≡ (is_front (take i text) word && eqb (get_or text i 0) (get_or word i 0))
front_suc i [] word p q = absurd (omega arith)
front_suc i (x ∷ text) [] p q = absurd (omega arith)
front_suc zero (x ∷ text) (y ∷ word) p q = swap (eqb x y)
  where
    swap : (b : Bool) → (b && true) ≡ (true && b)
    swap true = refl
    swap false = refl
front_suc (suc i) (x ∷ text) (y ∷ word) p q =
    ap (λ z. eqb x y && z) (front_suc i text word (omega arith) (omega arith)) ∙ assoc (eqb x y) (is_front (take i text) word) (eqb (get_or text i 0) (get_or word i 0))

-- a front longer than the word
front_past : (i : ℕ) (text word : List ℕ) → i < length text → length word ≤ i → is_front (take (suc i) text) word ≡ false
front_past i [] word p q = absurd (omega arith)
front_past i (x ∷ text) [] p q = refl
front_past zero (x ∷ text) (y ∷ word) p q = absurd (omega arith)
front_past (suc i) (x ∷ text) (y ∷ word) p q = and_right (eqb x y) _ (front_past i text word (omega arith) (omega arith))

pub front_more : (i : ℕ) (text word : List ℕ) → i < length text → i < length word → is_front (take i text) word ≡ true
    → get_or word i 0 ≡ get_or text i 0 → is_front (take (i + 1) text) word ≡ true
front_more i text word p q h e =
    ap (λ n. is_front (take n text) word) (add-one i) ∙ (front_suc i text word p q ∙ and_from _ _ h (eq-eqb _ _ (sym e)))

-- a table of one word
pub longest_differs : (i : ℕ) (text word : List ℕ) → i < length text → i < length word → is_front (take i text) word ≡ true
    → (get_or word i 0 ≡ get_or text i 0 → ⊥) → IsLongest (Class.words (word ∷ [])) text i
longest_differs i text word p q h ne = record {
  within = omega arith;
  fits = λ _. or_left _ _ h;
  ends = λ _. or_from _ _ (ap (λ n. is_front (take n text) word) (add-one i) ∙ (front_suc i text word p q ∙ and_right (is_front (take i text) word) _ (ne_eqb _ _ (λ e. ne (sym e))))) refl;
}

pub longest_ends : (i : ℕ) (text word : List ℕ) → i ≤ length text → (i < length text → length word ≤ i) → is_front (take i text) word ≡ true
    → IsLongest (Class.words (word ∷ [])) text i
longest_ends i text word p q h = record {
  within = p;
  fits = λ _. or_left _ _ h;
  ends = λ l. or_from _ _ (ap (λ n. is_front (take n text) word) (add-one i) ∙ front_past i text word l (q l)) refl;
}

-- a front of what doesn't begin so
longer_fails : (c : Class) (text : List ℕ) (m n : ℕ) → m ≤ n → begins c (take m text) ≡ false → begins c (take n text) ≡ false
longer_fails c text m n le h =
    false_from_ne_true _ (λ e. false≢true (sym h ∙ begins-closed c (take m text) (drop m (take n text)) (ap (begins c) (split m n text le) ∙ e)))
  where
    split : (m n : ℕ) (text : List ℕ) → m ≤ n → take m text ++ drop m (take n text) ≡ take n text
    split zero n text le = refl
    split (suc m) zero text le = absurd (omega arith)
    split (suc m) (suc n) [] le = refl
    split (suc m) (suc n) (x ∷ text) le = ap (λ z. x ∷ z) (split m n text (omega arith))

-- a table of a word and others
pub longest_either : (text word : List ℕ) (ws : List (List ℕ)) (m n : ℕ) → IsLongest (Class.words (word ∷ [])) text m → IsLongest (Class.words ws) text n
    → IsLongest (Class.words (word ∷ ws)) text (max m n)
longest_either text word ws m n a b = ⊎_elim less more (cases_lt m n)
  where
    only : (f : List ℕ) → (is_front f word || false) ≡ true → is_front f word ≡ true
    only f h = ⊎_elim (λ e. e) (λ e. absurd (false≢true e)) (or_cases (is_front f word) false h)

    less : m < n → IsLongest (Class.words (word ∷ ws)) text (max m n)
    less l =
        let is : max m n ≡ n = omega arith in
        subst (IsLongest (Class.words (word ∷ ws)) text) (sym is) (record {
          within = b.within;
          fits = λ p. or_right _ _ (b.fits p);
          ends = λ p. or_from _ _ (or_parts _ _ (longer_fails (Class.words (word ∷ [])) text (m + 1) (n + 1) (omega arith) (a.ends (omega arith)))).0 (b.ends p);
        })

    more : n ≤ m → IsLongest (Class.words (word ∷ ws)) text (max m n)
    more l =
        let is : max m n ≡ m = omega arith in
        subst (IsLongest (Class.words (word ∷ ws)) text) (sym is) (record {
          within = a.within;
          fits = λ p. or_left _ _ (only (take m text) (a.fits p));
          ends = λ p. or_from _ _ (or_parts _ _ (a.ends p)).0 (longer_fails (Class.words ws) text (n + 1) (m + 1) (omega arith) (b.ends (omega arith)));
        })

-- digits
prefix_within : (p : ℕ → Bool) (xs : List ℕ) → prefix_len p xs ≤ length xs
prefix_within p [] = omega arith
prefix_within p (x ∷ xs) = by_test (p x) (prefix_within p xs)
  where
    by_test : (b : Bool) → prefix_len p xs ≤ length xs → cond b (1 + prefix_len p xs) 0 ≤ suc (length xs)
    by_test true h = omega arith
    by_test false h = omega arith

prefix_all : (p : ℕ → Bool) (xs : List ℕ) (n : ℕ) → n ≤ prefix_len p xs → list_all p (take n xs) ≡ true
prefix_all p xs zero le = refl
prefix_all p [] (suc n) le = refl
prefix_all p (x ∷ xs) (suc n) le = by_test (p x) refl le (λ l. prefix_all p xs n l)
  where
    by_test : (b : Bool) → p x ≡ b → suc n ≤ cond b (1 + prefix_len p xs) 0 → (n ≤ prefix_len p xs → list_all p (take n xs) ≡ true)
        → (p x && list_all p (take n xs)) ≡ true
    by_test true is le ih = and_from (p x) _ is (ih (omega arith))
    by_test false is le ih = absurd (omega arith)

prefix_fails : (p : ℕ → Bool) (xs : List ℕ) → prefix_len p xs < length xs → list_all p (take (suc (prefix_len p xs)) xs) ≡ false
prefix_fails p [] l = absurd (omega arith)
prefix_fails p (x ∷ xs) l = by_test (p x) refl l (λ k. prefix_fails p xs k)
  where
    by_test : (b : Bool) → p x ≡ b → cond b (1 + prefix_len p xs) 0 < suc (length xs)
        → (prefix_len p xs < length xs → list_all p (take (suc (prefix_len p xs)) xs) ≡ false)
        → (p x && list_all p (take (cond b (1 + prefix_len p xs) 0) xs)) ≡ false
    by_test true is l ih =
        and_right (p x) _ (ap (λ n. list_all p (take n xs)) one ∙ ih (omega arith))
      where
        one : 1 + prefix_len p xs ≡ suc (prefix_len p xs)
        one = omega arith
    by_test false is l ih = and_left (p x) _ is

pub longest_nothing : (c : Class) → IsLongest c [] 0
longest_nothing c = record { within = omega arith; fits = λ p. absurd (omega arith); ends = λ p. absurd (omega arith) }

pub longest_zero : (text : List ℕ) (x : ℕ) (xs : List ℕ) → text ≡ x ∷ xs → x ≡ 48 → IsLongest Class.digits text 1
longest_zero text x xs e is = subst (λ z. IsLongest Class.digits z 1) (sym (e ∙ ap (λ z. z ∷ xs) is)) (record {
  within = omega arith;
  fits = λ _. refl;
  ends = λ l. second xs (omega arith);
})
  where
    second : (xs : List ℕ) → 0 < length xs → begins Class.digits (48 ∷ take 1 xs) ≡ false
    second [] l = absurd (omega arith)
    second (y ∷ ys) l = refl

pub longest_digits : (text : List ℕ) (x : ℕ) (xs : List ℕ) → text ≡ x ∷ xs → (x ≡ 48 → ⊥) → IsLongest Class.digits text (prefix_len is_ascii_digit text)
longest_digits text x xs e ne = subst (λ z. IsLongest Class.digits z (prefix_len is_ascii_digit z)) (sym e) (by_test (is_ascii_digit x) refl)
  where
    number : (n : ℕ) → begins Class.digits (take (suc n) (x ∷ xs)) ≡ (is_ascii_digit x && all_ascii_digits (take n xs))
    number n = cond-false _ _ _ (ne_eqb x 48 ne)

    by_test : (b : Bool) → is_ascii_digit x ≡ b → IsLongest Class.digits (x ∷ xs) (cond b (1 + prefix_len is_ascii_digit xs) 0)
    by_test true is =
        let n = prefix_len is_ascii_digit xs in
        let one : 1 + n ≡ suc n = omega arith in
        subst (IsLongest Class.digits (x ∷ xs)) (sym one) (record {
          within = omega (arith, prefix_within is_ascii_digit xs);
          fits = λ _. number n ∙ and_from _ _ is (sym (list_all_digits (take n xs)) ∙ prefix_all is_ascii_digit xs n (omega arith));
          ends = λ l. ap (λ m. begins Class.digits (take m (x ∷ xs))) (add-one (suc n))
              ∙ (number (suc n) ∙ and_right (is_ascii_digit x) _ (sym (list_all_digits (take (suc n) xs)) ∙ prefix_fails is_ascii_digit xs (omega arith)));
        })
    by_test false is = record {
      within = omega arith;
      fits = λ p. absurd (omega arith);
      ends = λ l. number 0 ∙ and_left (is_ascii_digit x) _ is;
    }

-- names
pub longest_no_name : (text : List ℕ) (x : ℕ) (xs : List ℕ) → text ≡ x ∷ xs → is_ascii_alphabetic x ≡ false → IsLongestName text 0
longest_no_name text x xs e is = subst (λ z. IsLongestName z 0) (sym e) (record {
  within = omega arith;
  fits = λ p. absurd (omega arith);
  ends = λ l. and_left _ _ (and_left (is_ascii_alphabetic x) _ is);
})

pub longest_name : (text : List ℕ) (x : ℕ) (xs : List ℕ) (n : ℕ) → text ≡ x ∷ xs → is_ascii_alphabetic x ≡ true → n ≡ 1 + min (prefix_len is_name_byte xs) 31
    → IsLongestName text n
longest_name text x xs n e is here = subst (λ z. IsLongestName z n) (sym e) (subst (IsLongestName (x ∷ xs)) (sym n_is) at_front)
  where
    m : ℕ
    m = min (prefix_len is_name_byte xs) 31

    n_is : n ≡ suc (min (prefix_len is_name_byte xs) 31)
    n_is = omega arith

    at_front : IsLongestName (x ∷ xs) (suc (min (prefix_len is_name_byte xs) 31))
    at_front = record {
      within = omega (arith, prefix_within is_name_byte xs);
      fits = λ _. and_from _ _ (and_from _ _ is (prefix_all is_name_byte xs (min (prefix_len is_name_byte xs) 31) (omega arith)))
          (lt-ltb _ _ (omega (arith, length-take (min (prefix_len is_name_byte xs) 31) xs)));
      ends = λ l. ap (λ k. is_name (take k (x ∷ xs))) (add-one (suc (min (prefix_len is_name_byte xs) 31))) ∙ ends_at (cases_lt (prefix_len is_name_byte xs) 31) (omega arith);
    }
      where
        ends_at : (prefix_len is_name_byte xs < 31) ⊎ (31 ≤ prefix_len is_name_byte xs) → min (prefix_len is_name_byte xs) 31 < length xs
            → is_name (x ∷ take (suc (min (prefix_len is_name_byte xs) 31)) xs) ≡ false
        ends_at (inl less) l =
            let same : min (prefix_len is_name_byte xs) 31 ≡ prefix_len is_name_byte xs = omega arith in
            and_left _ _ (and_right (is_ascii_alphabetic x) _ (ap (λ k. list_all is_name_byte (take (suc k) xs)) same ∙ prefix_fails is_name_byte xs (omega arith)))
        ends_at (inr more) l =
            let same : min (prefix_len is_name_byte xs) 31 ≡ 31 = omega arith in
            and_right _ _ (le-ltb (length (take (suc (min (prefix_len is_name_byte xs) 31)) xs)) 32 (omega (arith, length-take (suc (min (prefix_len is_name_byte xs) 31)) xs)))

-- an operand is an operator with its parenthesis
pub longest_opening : (text : List ℕ) (n : ℕ) → n < length text → is_some (opened_by (take (n + 1) text)) ≡ true → IsLongest Class.operand text (n + 1)
longest_opening text n l h = record {
  within = omega arith;
  fits = λ _. or_right _ _ (or_right _ _ h);
  ends = λ k.
      let found = opened_word (take (n + 1) text) h in
      ap (begins Class.operand) (take_more text (n + 1) 0 k ∙ ap (λ z. z ++ get_or text (n + 1) 0 ∷ []) found.1) ∙ opening_ends found.0 (get_or text (n + 1) 0);
}

-- or a name
pub longest_operand : (text : List ℕ) (n : ℕ) → IsLongestName text n → (n < length text → is_some (opened_by (take (n + 1) text)) ≡ false)
    → IsLongest Class.operand text n
longest_operand text n h lacks = record {
  within = h.within;
  fits = λ p. or_right _ _ (or_left _ _ (h.fits p));
  ends = λ l. or_from _ _ (not_empty text (omega arith)) (or_from _ _ (h.ends l) (lacks l));
}
  where
    not_empty : (text : List ℕ) → 0 < length text → is_empty (take (n + 1) text) ≡ false
    not_empty [] l = absurd (omega arith)
    not_empty (x ∷ xs) l = ap (λ k. is_empty (take k (x ∷ xs))) (add-one n)
