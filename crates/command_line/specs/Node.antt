-- Which words are those of `node`, and what they ask for.
use Rattle.std.specs.Prelude.{ℕ, true, false, List, [], ◌∷◌, Option, None, Some, codes, drop}
use Rattle.std.specs.Option.{option_and_then, option_map}
use Rattle.clap.specs.Words.{App, Row, first_of, with_rule}
use Rattle.command_line.specs.Apps.{bare_app, free_option, needed_option, needed_place}
use Rattle.command_line.specs.Line.{OptionRule, Takes, Given}
use Rattle.command_line.specs.OptionNumbers.{free_number_by, number_by, text_by}
use Rattle.command_line.specs.Taking.{given_text, taken}
use Rattle.command_line.specs.declared.node.Listening.{Listening}
use Rattle.command_line.specs.declared.node.NodeOptions.{NodeOptions}
use Rattle.topk_base.specs.declared.TheConstants.{MAX_CONNS, MAX_VERSION}

-- a command with places for the catalog and for the list's name, the option `--at`, which has to be given, and `--conns` and `--version`
abbrev pub node_app : App
node_app =
    with_rule (with_rule (with_rule (with_rule (with_rule bare_app (needed_place (codes "catalog"))) (needed_place (codes "name"))) (needed_option (codes "at"))) (free_option (codes "conns")))
    (free_option (codes "version"))

-- the number of the port, how many connections are taken, and the version that is stated
abbrev pub at_rule : OptionRule
at_rule = record { name = codes "at"; least = 1; most = 65535; required = true }

abbrev pub conns_rule : OptionRule
conns_rule = record { name = codes "conns"; least = 1; most = MAX_CONNS; required = false }

abbrev pub version_rule : OptionRule
version_rule = record { name = codes "version"; least = 0; most = MAX_VERSION; required = false }

-- what `node` takes: the place of a catalog and the name of a list, and these options
abbrev pub node_takes : Takes
node_takes = record { places = codes "catalog" ∷ codes "name" ∷ []; options = at_rule ∷ conns_rule ∷ version_rule ∷ [] }

-- where connections are taken by these two texts, and how many: as many as there may be where that isn't said
abbrev pub with_conns : ℕ → Option ℕ → Option Listening
with_conns number conns = option_map (λ count. record { at = number; conns = count }) conns

abbrev pub listening_of : Option (List ℕ) → Option (List ℕ) → Option Listening
listening_of at conns = option_and_then (λ number. with_conns number (free_number_by conns_rule MAX_CONNS conns)) (number_by at_rule at)

-- the version of a text, where it is one; without a text none is asked for
abbrev pub version_of : Option (List ℕ) → Option (Option ℕ)
version_of None = Some None
version_of (Some text) = option_map Some (number_by version_rule (Some text))

-- the list of this name of the catalog at this place, served so, where all are there
abbrev pub node_named : Listening → Option ℕ → List ℕ → Option (List ℕ) → Option NodeOptions
node_named listening version place name = option_map (λ list. record { catalog = place; name = list; listening = listening; version = version }) name

abbrev pub node_of : Option (List ℕ) → Option (List ℕ) → Option Listening → Option (Option ℕ) → Option NodeOptions
node_of catalog name listening version =
    option_and_then (λ l. option_and_then (λ v. option_and_then (λ place. node_named l v place name) catalog) version) listening

-- what is asked for
abbrev pub node_given : List Given → Option NodeOptions
node_given given =
    node_of (given_text (codes "catalog") given) (given_text (codes "name") given) (listening_of (text_by at_rule given) (text_by conns_rule given))
    (version_of (text_by version_rule given))

-- what words ask for, of which the first is the command's name: the others are the catalog's place and then the list's name, and the options in any order and
-- each once at most
abbrev pub node_options : List (List ℕ) → Option NodeOptions
node_options words = option_and_then node_given (taken node_takes (drop 1 words))

-- what `clap` found: where connections are taken, the version, and what is asked for
abbrev pub listening_in : List Row → Option Listening
listening_in rows = listening_of (first_of at_rule.name rows) (first_of conns_rule.name rows)

abbrev pub version_in : List Row → Option (Option ℕ)
version_in rows = version_of (first_of version_rule.name rows)

abbrev pub node_in : List Row → Option NodeOptions
node_in rows = node_of (first_of (codes "catalog") rows) (first_of (codes "name") rows) (listening_in rows) (version_in rows)
