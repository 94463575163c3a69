-- The commands as `clap` has them.
use Rattle.std.specs.Prelude.{ℕ, true, List, [], ◌∷◌, Some, codes}
use Rattle.clap.specs.Simple.{App, new_app, new_rule, on_top}
use Rattle.clap.specs.Words.{Rule, with_rule}
use Rattle.command_line.specs.declared.arguments.Argument.{Argument}
use Rattle.command_line.specs.declared.arguments.Argument.TheVariants.{Place, Needed, Free}

-- a command without words and options, and without help and version
abbrev pub bare_app : App
bare_app = on_top (λ s. record s { disable_help_flag = true; disable_version_flag = true }) (new_app (codes "topk"))

-- an option that has to be given, with a value
abbrev pub needed_option : List ℕ → Rule
needed_option name = record (new_rule name) { long = Some name; required = true }

-- an option that need not be given, with a value
abbrev pub free_option : List ℕ → Rule
free_option name = record (new_rule name) { long = Some name }

-- a place at which a word has to stand
abbrev pub needed_place : List ℕ → Rule
needed_place name = record (new_rule name) { required = true }

-- an argument's rule
abbrev pub rule_of_argument : Argument → Rule
rule_of_argument (Place name) = needed_place name.now
rule_of_argument (Needed name) = needed_option name.now
rule_of_argument (Free name) = free_option name.now

-- a command with these rules too, in their order
abbrev pub with_rules : App → List Rule → App
with_rules app [] = app
with_rules app (rule ∷ rules) = with_rules (with_rule app rule) rules
