-- Numbers as text: `0`, or a digit 1 to 9 followed by digits.
use Rattle.std.specs.Prelude.{◌≡◌, ◌==◌, ◌&&◌, ◌<◌, ◌≤◌, ◌^◌, ℕ, Bool, true, false, List, [], ◌∷◌, ◌++◌, if◌then◌else◌, length, nat_le, take}
use Rattle.std.specs.Option.{option_and_then}
use Rattle.std.specs.declared.option.Option.{Option}
use Rattle.std.specs.declared.option.Option.TheVariants.{None, Some}
use Rattle.std.specs.declared.result.Result.{Result}
use Rattle.std.specs.declared.result.Result.TheVariants.{Ok, Err}
use Rattle.std.specs.Char.{is_ascii_digit}
use Rattle.std.specs.Str.{all_ascii_digits}
use Rattle.std.specs.Str.Parse.{digits_value}
use Rattle.topk_base.specs.declared.numbers.NumberFault.{NumberFault}
use Rattle.topk_base.specs.declared.numbers.NumberFault.TheVariants.{NoNumber, TooLarge}

-- whether a text is empty
abbrev pub is_empty : List ℕ → Bool
is_empty [] = true
is_empty (byte ∷ rest) = false

-- whether a text is a number: `0` alone, or a digit 1 to 9 followed by digits
abbrev pub is_number : List ℕ → Bool
is_number [] = false
is_number (first ∷ rest) = if first == 48 then is_empty rest else is_ascii_digit first && all_ascii_digits rest

-- the number that a text spells, of any size, or None where it spells none
abbrev pub number_of : List ℕ → Option ℕ
number_of text = if is_number text then Some (digits_value 10 text) else None

-- the number that a text spells, where it is at most `most`
abbrev pub number_up_to : ℕ → List ℕ → Option ℕ
number_up_to most text = option_and_then (λ number. if nat_le number most then Some number else None) (number_of text)

-- what reading a text as a number of 64 bits answers: the number, or that it is none, or that it is one above the range
abbrev pub ReadsNumber : List ℕ → Result ℕ NumberFault → Type 0
ReadsNumber text (Ok number) = number_of text ≡ Some number
ReadsNumber text (Err NoNumber) = number_of text ≡ None
ReadsNumber text (Err TooLarge) = (number : ℕ) × (2 ^ 64 ≤ number) × (number_of text ≡ Some number)

-- the text is a number of 32 bits, and then the rest
pub record BeginsWithNumber (text : List ℕ) (number : ℕ) (rest : List ℕ) : Type 0 where
  pub digits : List ℕ
  pub whole : text ≡ digits ++ rest
  pub read : number_up_to 4294967295 digits ≡ Some number

-- the bytes before a place of the text are digits of this value
pub record AreDigitsBefore (text : List ℕ) (place value : ℕ) : Type 0 where
  pub within : place ≤ length text
  pub digits : all_ascii_digits (take place text) ≡ true
  pub is : value ≡ digits_value 10 (take place text)
  pub few : value < 43000000000
