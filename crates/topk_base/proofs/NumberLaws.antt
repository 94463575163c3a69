-- A number's text is what `decimal` writes of the number.
use Rattle.std.proofs.Common.{◌≡◌, ◌≢◌, ◌<◌, ◌≤◌, ◌^◌, ◌+◌, ◌-◌, ◌*◌, ◌&&◌, ℕ, suc, Bool, true, false, cond, eqb, List, [], ◌∷◌, length, get_or, take, Option, Some, None, refl, sym, ap, ◌∙◌, subst, ⊎_elim, arith, eq-eqb, ne_eqb, le-ltb, lt-ltb, le-leb, leb, leb-true, Result, Ok, Err, SomeIff}
use Rattle.std.specs.List.{All, list_all}
use Rattle.std.specs.Char.{is_ascii_digit, digit_value}
use Rattle.std.specs.Str.{all_ascii_digits}
use Rattle.std.specs.Str.Parse.{digits_value}
use Rattle.std.specs.Fmt.{decimal}
use Rattle.std.proofs.lemmas.Str.Parse.{IsNumeralModel, numerals_by_value, tells_all_ascii_digits, digit_at, digits_value-take-le}
use Rattle.std.proofs.lemmas.Fmt.{decimal_digit, first_decimal, decimal_nonempty, digits_decimal, digits_value-decimal, decimal-digits_value}
use Rattle.std.proofs.lemmas.Int.Digits.{digits_value_more}
use Rattle.std.proofs.lemmas.Bool.{cases_eq, false≢true, lt-leb}
use Rattle.std.proofs.lemmas.Option.{same_Some, none-some}
use Rattle.std.proofs.lemmas.List.{get_or_default}
use Rattle.std.specs.Option.{ok_or, option_and_then}
use Rattle.topk_base.specs.declared.numbers.NumberFault.{NumberFault}
use Rattle.topk_base.specs.declared.numbers.NumberFault.TheVariants.{NoNumber, TooLarge}
use Rattle.topk_base.specs.Numbers.{is_empty, is_number, number_of, number_up_to, ReadsNumber}

-- std's facts on digits and their value, for the words of this crate
own : IsNumeralModel (λ ds. all_ascii_digits ds ≡ true) (digits_value 10)
own = numerals_by_value (λ ds. all_ascii_digits ds ≡ true) tells_all_ascii_digits

-- the two ways to say that each byte is a digit
pub list_all_digits : (ds : List ℕ) → list_all is_ascii_digit ds ≡ all_ascii_digits ds
list_all_digits [] = refl
list_all_digits (d ∷ ds) = ap (λ b. is_ascii_digit d && b) (list_all_digits ds)

-- digits, of which the first is `0` only where it stands alone
pub record IsCanonical (ds : List ℕ) : Type 0 where
  pub digits : all_ascii_digits ds ≡ true
  pub some : 0 < length ds
  pub no_zero : get_or ds 0 0 ≡ 48 → length ds ≡ 1

pub is_number-from_canonical : (ds : List ℕ) → IsCanonical ds → is_number ds ≡ true
is_number-from_canonical [] h = absurd (let some = h.some in omega arith)
is_number-from_canonical (d ∷ ds) h =
    ⊎_elim
    (λ e. rw (eq-eqb d 48 e) (let one : suc (length ds) ≡ 1 = h.no_zero e in empty_from_length ds (omega arith)))
    (λ ne. rw (ne_eqb d 48 ne) h.digits)
    (cases_eq d 48)
  where
    empty_from_length : (ds : List ℕ) → length ds ≡ 0 → is_empty ds ≡ true
    empty_from_length [] e = refl
    empty_from_length (d ∷ ds) e = absurd (omega arith)

pub canonical_from_number : (ds : List ℕ) → is_number ds ≡ true → IsCanonical ds
canonical_from_number [] h = absurd (false≢true h)
canonical_from_number (d ∷ ds) h = ⊎_elim (λ e. zero_alone ds e (rw (eq-eqb d 48 e) at h)) (λ ne. more ne (rw (ne_eqb d 48 ne) at h)) (cases_eq d 48)
  where
    zero_alone : (ds : List ℕ) → d ≡ 48 → is_empty ds ≡ true → IsCanonical (d ∷ ds)
    zero_alone [] e empty = record { digits = rw e refl; some = omega arith; no_zero = λ _. refl }
    zero_alone (x ∷ xs) e empty = absurd (false≢true empty)

    more : d ≢ 48 → (is_ascii_digit d && all_ascii_digits ds) ≡ true → IsCanonical (d ∷ ds)
    more ne both = record { digits = both; some = omega arith; no_zero = λ e. absurd (ne e) }

-- each number below 2 ^ 64 is read as what it is
pub number_of-decimal : (n : ℕ) → n < 2 ^ 64 → number_of (decimal n) ≡ Some n
number_of-decimal n small =
    rw (is_number-from_canonical (decimal n) canonical) (ap Some (digits_value-decimal own n small))
  where
    alone : get_or (decimal n) 0 0 ≡ 48 → length (decimal n) ≡ 1
    alone e =
        ⊎_elim
        (λ z. ap (λ m. length (decimal m)) z ∙ ap length (decimal_digit 0 (omega arith)))
        (λ ne. let first = first_decimal n (omega arith) small in absurd (omega arith))
        (cases_eq n 0)

    canonical : IsCanonical (decimal n)
    canonical = record { digits = digits_decimal own n small; some = decimal_nonempty n small; no_zero = alone }

-- what a text that is read says
pub number_of-some : (text : List ℕ) (n : ℕ) → number_of text ≡ Some n → (is_number text ≡ true) × (digits_value 10 text ≡ n)
number_of-some text n h = by_test (is_number text) h
  where
    by_test : (b : Bool) → cond b (Some (digits_value 10 text)) None ≡ Some n → (b ≡ true) × (digits_value 10 text ≡ n)
    by_test true e = (refl, same_Some _ _ e)
    by_test false e = absurd (none-some n e)

-- and only what `decimal` writes of a number is read as it
pub decimal-number_of : (text : List ℕ) (n : ℕ) → number_of text ≡ Some n → n < 2 ^ 64 → text ≡ decimal n
decimal-number_of text n h small =
    let parts = number_of-some text n h in
    let shape = canonical_from_number text parts.0 in
    let fits : digits_value 10 text < 2 ^ 64 = subst (λ v. v < 2 ^ 64) (sym parts.1) small in
    sym (decimal-digits_value own text shape.digits shape.some shape.no_zero fits) ∙ ap decimal parts.1

-- the bytes of a decimal are digits
pub decimal_bytes : (n : ℕ) → n < 2 ^ 64 → All (λ byte. (48 ≤ byte) × (byte ≤ 57)) (decimal n)
decimal_bytes n small = λ k d l.
    let range = digit_at (decimal n) k (own.to (decimal n) (digits_decimal own n small)) l in
    subst (λ byte. (48 ≤ byte) × (byte ≤ 57)) (get_or_default (decimal n) k 0 d l) (range.0, range.1)

-- one digit more
pub record AddsDigit (ds : List ℕ) (i : ℕ) : Type 0 where
  pub low : 48 ≤ get_or ds i 0
  pub high : get_or ds i 0 ≤ 57
  pub value : digits_value 10 (take (i + 1) ds) ≡ digits_value 10 (take i ds) * 10 + (get_or ds i 0 - 48)
  pub most : digits_value 10 (take (i + 1) ds) ≤ digits_value 10 ds

pub decimal_digit_value : (c : ℕ) → 48 ≤ c → c ≤ 57 → digit_value c ≡ c - 48
decimal_digit_value c low high = rw (le-ltb c 48 low, lt-ltb c 58 (omega arith)) refl

pub digit_more : (ds : List ℕ) (i : ℕ) → all_ascii_digits ds ≡ true → i < length ds → AddsDigit ds i
digit_more ds i digits within =
    let range = digit_at ds i (own.to ds digits) within in record {
      low = range.0;
      high = range.1;
      value = digits_value_more 10 ds i within ∙ ap (λ v. digits_value 10 (take i ds) * 10 + v) (decimal_digit_value (get_or ds i 0) range.0 range.1);
      most = digits_value-take-le 10 ds (i + 1) (omega arith);
    }

-- where the first byte is a digit but `0`, the other bytes decide
pub is_number_by_rest : (text : List ℕ) (first : ℕ) (rest : List ℕ) → text ≡ first ∷ rest → first ≢ 48 → is_ascii_digit first ≡ true
    → is_number text ≡ list_all is_ascii_digit rest
is_number_by_rest text first rest e ne digit =
    ap is_number e ∙ rw (ne_eqb first 48 ne, digit) (by_rest (all_ascii_digits rest)) ∙ sym (list_all_digits rest)
  where
    by_rest : (b : Bool) → (true && b) ≡ b
    by_rest true = refl
    by_rest false = refl

-- a text that begins with `0` is a number where nothing follows
pub is_number_alone : (text : List ℕ) (first : ℕ) (rest : List ℕ) → text ≡ first ∷ rest → first ≡ 48 → is_number text ≡ eqb (length rest) 0
is_number_alone text first rest e zero = ap is_number e ∙ rw (eq-eqb first 48 zero) (by_rest rest)
  where
    by_rest : (rest : List ℕ) → is_empty rest ≡ eqb (length rest) 0
    by_rest [] = refl
    by_rest (byte ∷ rest) = sym (ne_eqb (length (byte ∷ rest)) 0 (omega arith))

-- where the value stands at a digit, the text's value is no less
pub too_large : (ds : List ℕ) (i value : ℕ) → all_ascii_digits ds ≡ true → i < length ds → value ≡ digits_value 10 (take i ds)
    → 2 ^ 64 ≤ value * 10 + (get_or ds i 0 - 48) → digits_value 10 ds < 2 ^ 64 → ⊥
too_large ds i value digits within is large fits = let one = digit_more ds i digits within in omega arith

-- what reading by digits answers
pub reads_digits : (text : List ℕ) (o : Option ℕ) (r : Result ℕ NumberFault) → is_number text ≡ true
    → SomeIff o (digits_value 10 text < 2 ^ 64) (digits_value 10 text) → r ≡ ok_or o TooLarge → ReadsNumber text r
reads_digits text (Some n) r number is e = subst (ReadsNumber text) (sym e) (rw number (ap Some (sym is.1)))
reads_digits text None r number is e =
    subst (ReadsNumber text) (sym e) (digits_value 10 text, lt_of_not fits, rw number refl)
  where
    fits : digits_value 10 text < 2 ^ 64 → ⊥
    fits = is

    lt_of_not : (digits_value 10 text < 2 ^ 64 → ⊥) → 2 ^ 64 ≤ digits_value 10 text
    lt_of_not h = omega (arith, h)

pub digits_from_number : (text : List ℕ) → is_number text ≡ true → all_ascii_digits text ≡ true
digits_from_number text h = let shape = canonical_from_number text h in shape.digits

-- the number that is read is the one up to its bound
pub up_to-at : (most n : ℕ) (text : List ℕ) → number_of text ≡ Some n → n ≤ most → number_up_to most text ≡ Some n
up_to-at most n text h small = rw (h, le-leb n most small) refl

pub up_to-above : (most n : ℕ) (text : List ℕ) → number_of text ≡ Some n → most < n → number_up_to most text ≡ None
up_to-above most n text h large = rw (h, lt-leb n most large) refl

pub up_to-none : (most : ℕ) (text : List ℕ) → number_of text ≡ None → number_up_to most text ≡ None
up_to-none most text h = rw h refl

-- and what it says of the text
pub up_to-some : (most n : ℕ) (text : List ℕ) → number_up_to most text ≡ Some n → (number_of text ≡ Some n) × (n ≤ most)
up_to-some most n text h = by_number (number_of text) h
  where
    by_test : (m : ℕ) (b : Bool) → leb m most ≡ b → cond b (Some m) None ≡ Some n → (Some m ≡ Some n) × (n ≤ most)
    by_test m true is e = (e, subst (λ k. k ≤ most) (same_Some m n e) (leb-true m most is))
    by_test m false is e = absurd (none-some n e)

    by_number : (o : Option ℕ) → option_and_then (λ m. cond (leb m most) (Some m) None) o ≡ Some n → (o ≡ Some n) × (n ≤ most)
    by_number None e = absurd (none-some n e)
    by_number (Some m) e = by_test m (leb m most) refl e

-- a number up to a bound below 2 ^ 64 is what `decimal` writes of it, and that is read as it
pub up_to-decimal : (most n : ℕ) → n ≤ most → most < 2 ^ 64 → number_up_to most (decimal n) ≡ Some n
up_to-decimal most n small bound = up_to-at most n (decimal n) (number_of-decimal n (omega arith)) small

pub decimal-up_to : (most n : ℕ) (text : List ℕ) → most < 2 ^ 64 → number_up_to most text ≡ Some n → text ≡ decimal n
decimal-up_to most n text bound h =
    let parts = up_to-some most n text h in
    let small : n ≤ most = parts.1 in
    decimal-number_of text n parts.0 (omega arith)

-- the answer of a reading that gave no number up to the bound
pub up_to_missed : (most : ℕ) (text : List ℕ) (r : Result ℕ NumberFault) → most < 2 ^ 64 → ReadsNumber text r
    → ((n : ℕ) → r ≡ Ok n → most < n) → number_up_to most text ≡ None
up_to_missed most text (Ok n) bound reads above = up_to-above most n text reads (above n refl)
up_to_missed most text (Err NoNumber) bound reads above = up_to-none most text reads
up_to_missed most text (Err TooLarge) bound reads above = up_to-above most reads.0 text reads.2 (omega (arith, reads.1))
