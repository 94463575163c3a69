-- The numbers that options are given.
use Rattle.std.specs.Prelude.{ℕ, List, Option, None, Some, if◌then◌else◌, nat_le}
use Rattle.std.specs.Option.{option_and_then}
use Rattle.topk_base.specs.Numbers.{number_up_to}
use Rattle.clap.specs.Words.{Row, first_of}
use Rattle.command_line.specs.Line.{OptionRule, Given}
use Rattle.command_line.specs.Taking.{given_text}

-- the number where it is within its range
abbrev pub at_least : ℕ → ℕ → Option ℕ
at_least least number = if nat_le least number then Some number else None

-- the number that a value spells, where there is one within its range
abbrev pub number_given : Option (List ℕ) → ℕ → ℕ → Option ℕ
number_given value least most = option_and_then (λ text. option_and_then (at_least least) (number_up_to most text)) value

-- the number that a value spells, or another one where there is no value
abbrev pub number_or : ℕ → Option (List ℕ) → ℕ → ℕ → Option ℕ
number_or default None least most = Some default
number_or default (Some text) least most = number_given (Some text) least most

-- the number of an option's text within its range; the same of an option that need not be given, and what stands for it then
abbrev pub number_by : OptionRule → Option (List ℕ) → Option ℕ
number_by rule text = number_given text rule.least rule.most

abbrev pub free_number_by : OptionRule → ℕ → Option (List ℕ) → Option ℕ
free_number_by rule default text = number_or default text rule.least rule.most

-- the text of an option
abbrev pub text_by : OptionRule → List Given → Option (List ℕ)
text_by rule given = given_text rule.name given

-- the number of an option that `clap` found
abbrev pub number_in : List Row → List ℕ → ℕ → ℕ → Option ℕ
number_in rows name least most = number_given (first_of name rows) least most

abbrev pub free_number_in : List Row → List ℕ → ℕ → ℕ → ℕ → Option ℕ
free_number_in rows name default least most = number_or default (first_of name rows) least most
