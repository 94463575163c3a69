-- Which words are those of `run`, and what they ask for.
use Rattle.std.specs.Prelude.{ℕ, false, List, [], ◌∷◌, Option, codes, drop}
use Rattle.std.specs.Option.{option_and_then, option_map}
use Rattle.clap.specs.Words.{App, Row, first_of, with_rule}
use Rattle.command_line.specs.Apps.{bare_app, free_option, needed_place}
use Rattle.command_line.specs.Line.{OptionRule, Takes, Given}
use Rattle.command_line.specs.OptionNumbers.{free_number_by, text_by}
use Rattle.command_line.specs.Taking.{given_text, taken}
use Rattle.command_line.specs.declared.running.RunOptions.{RunOptions}
use Rattle.topk_base.specs.declared.settings.Settings.{Settings}

-- a command with a place for the catalog, and the options `--workers`, `--page` and `--ahead`, which need not be given
abbrev pub run_app : App
run_app =
    with_rule (with_rule (with_rule (with_rule bare_app (needed_place (codes "catalog"))) (free_option (codes "workers"))) (free_option (codes "page")))
    (free_option (codes "ahead"))

-- how many queries run at the same time, how many rows a page has, and how many pages are read ahead
abbrev pub workers_rule : OptionRule
workers_rule = record { name = codes "workers"; least = 1; most = 32; required = false }

abbrev pub page_rule : OptionRule
page_rule = record { name = codes "page"; least = 1; most = 10000; required = false }

abbrev pub ahead_rule : OptionRule
ahead_rule = record { name = codes "ahead"; least = 0; most = 100; required = false }

-- what `run` takes: the place of a catalog, and these options
abbrev pub run_takes : Takes
run_takes = record { places = codes "catalog" ∷ []; options = workers_rule ∷ page_rule ∷ ahead_rule ∷ [] }

abbrev pub with_ahead : ℕ → ℕ → Option ℕ → Option Settings
with_ahead workers page ahead = option_map (λ pages. record { workers = workers; page = page; ahead = pages }) ahead

-- the settings of these three texts, where each that there is spells a number within its range: else 4 workers, 100 rows and 2 pages
abbrev pub settings_of : Option (List ℕ) → Option (List ℕ) → Option (List ℕ) → Option Settings
settings_of workers page ahead =
    option_and_then (λ n. option_and_then (λ rows. with_ahead n rows (free_number_by ahead_rule 2 ahead)) (free_number_by page_rule 100 page))
    (free_number_by workers_rule 4 workers)

-- a run over the catalog at a place with these settings, where both are there
abbrev pub run_of : Option (List ℕ) → Option Settings → Option RunOptions
run_of catalog settings = option_and_then (λ place. option_map (λ s. record { catalog = place; settings = s }) settings) catalog

-- the run that is asked for
abbrev pub run_given : List Given → Option RunOptions
run_given given = run_of (given_text (codes "catalog") given) (settings_of (text_by workers_rule given) (text_by page_rule given) (text_by ahead_rule given))

-- the run that words ask for, of which the first is the command's name: the others are the catalog's place, and the options in any order and each once at most
abbrev pub run_options : List (List ℕ) → Option RunOptions
run_options words = option_and_then run_given (taken run_takes (drop 1 words))

-- what `clap` found: the settings, and the run that is asked for
abbrev pub settings_in : List Row → Option Settings
settings_in rows = settings_of (first_of workers_rule.name rows) (first_of page_rule.name rows) (first_of ahead_rule.name rows)

abbrev pub run_in : List Row → Option RunOptions
run_in rows = run_of (first_of (codes "catalog") rows) (settings_in rows)
