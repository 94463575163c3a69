-- The pairs of query parts, by the grammar of `form_urlencoded`.
use Rattle.std.specs.Prelude.{ℕ, List, [], ◌∷◌, if◌then◌else◌, Option, Some, None, nat_le}
use Rattle.std.specs.Option.{option_and_then}
use Rattle.std.specs.Str.{bytes_eq}
use Rattle.std.specs.Str.Lossy.{utf8_lossy}
use Rattle.form_urlencoded.specs.Form.{raw_pairs, decode}
use Rattle.topk_base.specs.Numbers.{number_up_to}

-- the text that a name or a value stands for: `+` is a space, escapes are decoded, and what isn't UTF-8 becomes U+FFFD
abbrev pub text_of : List ℕ → List ℕ
text_of bytes = utf8_lossy (decode bytes)

-- the value of the first pair of this name
abbrev pub first_value : List ℕ → List (List ℕ × List ℕ) → Option (List ℕ)
first_value name [] = None
first_value name (pair ∷ pairs) = if bytes_eq (text_of pair.0) name then Some (text_of pair.1) else first_value name pairs

-- the same in a query part
abbrev pub value_in : List ℕ → List ℕ → Option (List ℕ)
value_in name query = first_value name (raw_pairs query)

-- the number from `least` to `most` that a text spells
abbrev pub number_between : ℕ → ℕ → List ℕ → Option ℕ
number_between least most text = option_and_then (λ number. if nat_le least number then Some number else None) (number_up_to most text)

-- the number from `least` to `most` that the first pair of this name says
abbrev pub number_in : List ℕ → ℕ → ℕ → List ℕ → Option ℕ
number_in name least most query = option_and_then (number_between least most) (value_in name query)
