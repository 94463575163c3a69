-- A number at the front of a text.
use Rattle.std.proofs.Common.{◌≡◌, ◌≢◌, ◌<◌, ◌≤◌, ◌+◌, ◌-◌, ◌*◌, ◌&&◌, ℕ, true, cond, List, [], ◌∷◌, ◌++◌, length, get_or, take, drop, Some, None, refl, sym, ap, ap₂, ◌∙◌, arith, inl, inr, leb, le-leb, add-one, length-take, take-append-drop}
use Rattle.std.specs.Char.{is_ascii_digit}
use Rattle.std.specs.Str.{all_ascii_digits}
use Rattle.std.specs.Str.Parse.{digits_value}
use Rattle.std.specs.Option.{option_and_then}
use Rattle.std.proofs.Math.Seq.{take-suc}
use Rattle.std.proofs.lemmas.Int.Digits.{digits_value_more}
use Rattle.std.proofs.lemmas.List.{get_or-take, length-take-le}
use Rattle.std.proofs.lemmas.List.Folds.{list_all-append}
use Rattle.std.proofs.lemmas.Bool.{cases_lt}
use Rattle.std.proofs.lemmas.Bool.Decides.{nat_tests}
use Rattle.topk_base.specs.Numbers.{BeginsWithNumber, AreDigitsBefore}
use Rattle.topk_base.proofs.NumberLaws.{IsCanonical, is_number-from_canonical, list_all_digits, decimal_digit_value}

-- no byte is before the first place
pub none_before : (text : List ℕ) → AreDigitsBefore text 0 0
none_before text = record { within = omega arith; digits = refl; is = refl; few = omega arith }

digit_range : (c : ℕ) → is_ascii_digit c ≡ true → (48 ≤ c) × (c ≤ 57)
digit_range c h = grind (arith, nat_tests)

-- one digit more
pub digits_further : (text : List ℕ) (place value : ℕ) → AreDigitsBefore text place value → place < length text → is_ascii_digit (get_or text place 0) ≡ true
    → value ≤ 4294967295 → AreDigitsBefore text (place + 1) (value * 10 + (get_or text place 0 - 48))
digits_further text place value before within digit small =
    let range = digit_range (get_or text place 0) digit in
    let longer : take (place + 1) text ≡ take place text ++ get_or text place 0 ∷ [] = one_more text place within in
    record {
      within = omega arith;
      digits =
          ap all_ascii_digits longer ∙ sym (list_all_digits (take place text ++ get_or text place 0 ∷ []))
          ∙ list_all-append is_ascii_digit (take place text) (get_or text place 0 ∷ [])
          ∙ ap₂ (λ a b. a && (b && true)) (list_all_digits (take place text) ∙ before.digits) digit;
      is =
          ap₂ (λ v d. v * 10 + d) before.is (sym (decimal_digit_value (get_or text place 0) range.0 range.1))
          ∙ sym (digits_value_more 10 text place within);
      few = omega arith;
    }
  where
    one_more : (text : List ℕ) (place : ℕ) → place < length text → take (place + 1) text ≡ take place text ++ get_or text place 0 ∷ []
    one_more text place within = rw add-one (take-suc text place 0 within)

-- what stands before a place is a number, unless it is too great, or a zero with digits after it
pub begins : (text : List ℕ) (place value : ℕ) → AreDigitsBefore text place value → 0 < place → value ≤ 4294967295
    → (1 < place → get_or text 0 0 ≢ 48) → BeginsWithNumber text value (drop place text)
begins text place value before some small no_zero =
    let within = before.within in
    let size : length (take place text) ≡ place = length-take-le place text within in
    let canonical : IsCanonical (take place text) = record {
      digits = before.digits;
      some = omega arith;
      no_zero = λ zero. alone zero;
    } in
    record {
      digits = take place text;
      whole = sym (take-append-drop place text);
      read =
          ap (λ b. option_and_then (λ number. cond (leb number 4294967295) (Some number) None) (cond b (Some (digits_value 10 (take place text))) None)) (is_number-from_canonical (take place text) canonical)
          ∙ ap (λ v. cond (leb v 4294967295) (Some v) None) (sym before.is)
          ∙ ap (λ b. cond b (Some value) None) (le-leb value 4294967295 small);
    }
  where
    alone : get_or (take place text) 0 0 ≡ 48 → length (take place text) ≡ 1
    alone zero =
        elim (cases_lt 1 place) [
          | inl more ↦ absurd (no_zero more (sym (get_or-take place text 0 0 some) ∙ zero))
          | inr one ↦ let size = length-take place text in let within = before.within in omega arith
        ]
