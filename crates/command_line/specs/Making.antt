-- Which words are those of `make`, and which table they ask for.
use Rattle.std.specs.Prelude.{ℕ, ◌≤◌, true, List, [], ◌∷◌, Option, codes, drop}
use Rattle.std.specs.Option.{option_and_then, option_map}
use Rattle.clap.specs.Words.{App, Row, first_of, with_rule}
use Rattle.command_line.specs.Apps.{bare_app, needed_option}
use Rattle.command_line.specs.Line.{OptionRule, Takes, Given}
use Rattle.command_line.specs.OptionNumbers.{number_by, text_by}
use Rattle.command_line.specs.Taking.{taken}
use Rattle.command_line.specs.declared.making.MakeOptions.{MakeOptions}
use Rattle.topk_base.specs.declared.TheConstants.{MAX_LISTS, MAX_OBJECTS, MAX_START}

-- a command with the options `--start`, `--count` and `--lists`, which have to be given
abbrev pub make_app : App
make_app = with_rule (with_rule (with_rule bare_app (needed_option (codes "start"))) (needed_option (codes "count"))) (needed_option (codes "lists"))

-- the number that a table is made from, its objects and its lists, each of which has to be given
abbrev pub start_rule : OptionRule
start_rule = record { name = codes "start"; least = 0; most = MAX_START; required = true }

abbrev pub count_rule : OptionRule
count_rule = record { name = codes "count"; least = 1; most = MAX_OBJECTS; required = true }

abbrev pub lists_rule : OptionRule
lists_rule = record { name = codes "lists"; least = 1; most = MAX_LISTS; required = true }

-- what `make` takes
abbrev pub make_takes : Takes
make_takes = record { places = []; options = start_rule ∷ count_rule ∷ lists_rule ∷ [] }

abbrev pub with_lists : ℕ → ℕ → Option ℕ → Option MakeOptions
with_lists start count lists = option_map (λ m. record { start = start; count = count; lists = m }) lists

-- the table of these three texts, where each is a number within its range
abbrev pub table_of : Option (List ℕ) → Option (List ℕ) → Option (List ℕ) → Option MakeOptions
table_of start count lists =
    option_and_then (λ n. option_and_then (λ rows. with_lists n rows (number_by lists_rule lists)) (number_by count_rule count))
    (number_by start_rule start)

-- the table that is asked for
abbrev pub options_given : List Given → Option MakeOptions
options_given given = table_of (text_by start_rule given) (text_by count_rule given) (text_by lists_rule given)

-- the table that words ask for, of which the first is the command's name: the others are the three options, in any order and each once
abbrev pub make_options : List (List ℕ) → Option MakeOptions
make_options words = option_and_then options_given (taken make_takes (drop 1 words))

-- the table that the options ask for which `clap` found
abbrev pub options_in : List Row → Option MakeOptions
options_in rows = table_of (first_of start_rule.name rows) (first_of count_rule.name rows) (first_of lists_rule.name rows)

-- the numbers of a table are within their ranges
pub record AreMakeOptions (options : MakeOptions) : Type 0 where
  pub some_objects : 1 ≤ options.count
  pub few_objects : options.count ≤ MAX_OBJECTS
  pub some_lists : 1 ≤ options.lists
  pub few_lists : options.lists ≤ MAX_LISTS
