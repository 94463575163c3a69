-- Which words are those of `bulk`, and what they ask for.
use Rattle.std.specs.Prelude.{ℕ, ◌≤◌, true, List, [], ◌∷◌, ◌++◌, Option, codes, drop}
use Rattle.std.specs.Option.{option_and_then, option_map}
use Rattle.clap.specs.Words.{App, Row, first_of, with_rule}
use Rattle.command_line.specs.Apps.{free_option, needed_option}
use Rattle.command_line.specs.Line.{OptionRule, Takes, Given}
use Rattle.command_line.specs.Making.{make_app, make_takes, options_given, options_in, AreMakeOptions}
use Rattle.command_line.specs.OptionNumbers.{number_by, text_by}
use Rattle.command_line.specs.Running.{workers_rule, page_rule, ahead_rule, settings_of, settings_in}
use Rattle.topk_base.specs.Ranges.{AreSettings}
use Rattle.command_line.specs.Taking.{taken}
use Rattle.command_line.specs.declared.bulking.BulkOptions.{BulkOptions}
use Rattle.command_line.specs.declared.making.MakeOptions.{MakeOptions}
use Rattle.topk_base.specs.declared.settings.Settings.{Settings}
use Rattle.topk_base.specs.declared.TheConstants.{MAX_QUERIES}

-- a command with the options of `make`, the option `--queries`, which has to be given too, and those of `run`, which need not be given
abbrev pub bulk_app : App
bulk_app =
    with_rule (with_rule (with_rule (with_rule make_app (needed_option (codes "queries"))) (free_option (codes "workers"))) (free_option (codes "page")))
    (free_option (codes "ahead"))

-- how many queries are made
abbrev pub queries_rule : OptionRule
queries_rule = record { name = codes "queries"; least = 1; most = MAX_QUERIES; required = true }

-- what `bulk` takes: these options
abbrev pub bulk_takes : Takes
bulk_takes = record { places = []; options = make_takes.options ++ queries_rule ∷ workers_rule ∷ page_rule ∷ ahead_rule ∷ [] }

abbrev pub with_settings : MakeOptions → ℕ → Option Settings → Option BulkOptions
with_settings table queries settings = option_map (λ s. record { table = table; queries = queries; settings = s }) settings

-- so many queries over a table with these settings, where all are there
abbrev pub bulk_of : Option MakeOptions → Option ℕ → Option Settings → Option BulkOptions
bulk_of table queries settings = option_and_then (λ t. option_and_then (λ n. with_settings t n settings) queries) table

-- the settings that are asked for, and the queries with their table
abbrev pub settings_given : List Given → Option Settings
settings_given given = settings_of (text_by workers_rule given) (text_by page_rule given) (text_by ahead_rule given)

abbrev pub bulk_given : List Given → Option BulkOptions
bulk_given given = bulk_of (options_given given) (number_by queries_rule (text_by queries_rule given)) (settings_given given)

-- the queries that words ask for, of which the first is the command's name: the others are the options in any order and each once at most
abbrev pub bulk_options : List (List ℕ) → Option BulkOptions
bulk_options words = option_and_then bulk_given (taken bulk_takes (drop 1 words))

-- the queries that the options ask for which `clap` found
abbrev pub bulk_in : List Row → Option BulkOptions
bulk_in rows = bulk_of (options_in rows) (number_by queries_rule (first_of queries_rule.name rows)) (settings_in rows)

-- the numbers are within their ranges
pub record AreBulkOptions (options : BulkOptions) : Type 0 where
  pub table : AreMakeOptions options.table
  pub some_queries : 1 ≤ options.queries
  pub few_queries : options.queries ≤ MAX_QUERIES
  pub settings : AreSettings options.settings
