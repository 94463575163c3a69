-- Which words are those of `serve`, and what they ask for.
use Rattle.std.specs.Prelude.{ℕ, List, [], ◌∷◌, Option, codes, drop}
use Rattle.std.specs.Option.{option_and_then, option_map}
use Rattle.clap.specs.Words.{App, Row, first_of, with_rule}
use Rattle.command_line.specs.Apps.{bare_app, free_option, needed_option, needed_place}
use Rattle.command_line.specs.Line.{Takes, Given}
use Rattle.command_line.specs.Node.{at_rule, conns_rule, listening_of, listening_in}
use Rattle.command_line.specs.OptionNumbers.{text_by}
use Rattle.command_line.specs.Running.{workers_rule, page_rule, ahead_rule, settings_of, settings_in}
use Rattle.command_line.specs.Taking.{given_text, taken}
use Rattle.command_line.specs.declared.node.Listening.{Listening}
use Rattle.command_line.specs.declared.serving.ServeOptions.{ServeOptions}
use Rattle.topk_base.specs.declared.settings.Settings.{Settings}

-- a command with a place for the catalog, the option `--at`, which has to be given, and `--conns` and the options of `run`
abbrev pub serve_app : App
serve_app =
    with_rule (with_rule (with_rule (with_rule (with_rule (with_rule bare_app (needed_place (codes "catalog"))) (needed_option (codes "at"))) (free_option (codes "conns")))
    (free_option (codes "workers"))) (free_option (codes "page"))) (free_option (codes "ahead"))

-- what `serve` takes: the place of a catalog, where connections are taken, and the options of `run`
abbrev pub serve_takes : Takes
serve_takes = record { places = codes "catalog" ∷ []; options = at_rule ∷ conns_rule ∷ workers_rule ∷ page_rule ∷ ahead_rule ∷ [] }

-- the lists of the catalog at this place, served so, where all are there
abbrev pub served_so : List ℕ → Listening → Option Settings → Option ServeOptions
served_so place listening settings = option_map (λ s. record { catalog = place; listening = listening; settings = s }) settings

abbrev pub serve_of : Option (List ℕ) → Option Listening → Option Settings → Option ServeOptions
serve_of catalog listening settings = option_and_then (λ place. option_and_then (λ l. served_so place l settings) listening) catalog

-- what is asked for
abbrev pub serve_given : List Given → Option ServeOptions
serve_given given =
    serve_of (given_text (codes "catalog") given) (listening_of (text_by at_rule given) (text_by conns_rule given))
    (settings_of (text_by workers_rule given) (text_by page_rule given) (text_by ahead_rule given))

-- what words ask for, of which the first is the command's name: the others are the catalog's place, and the options in any order and each once at most
abbrev pub serve_options : List (List ℕ) → Option ServeOptions
serve_options words = option_and_then serve_given (taken serve_takes (drop 1 words))

-- what `clap` found
abbrev pub serve_in : List Row → Option ServeOptions
serve_in rows = serve_of (first_of (codes "catalog") rows) (listening_in rows) (settings_in rows)
