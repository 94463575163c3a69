-- The arguments of a command with places and options, as `clap` has them once it is built.
use Rattle.std.specs.Prelude.{ℕ, Bool, true, List, [], ◌∷◌, ◌++◌, ◌+◌, map, min, Option, Some, None, codes}
use Rattle.clap.specs.Lexer.{usize_max}
use Rattle.clap.specs.Walk.{Text, Rule}
use Rattle.clap.specs.Simple.{Shape, new_rule, new_shape}
use Rattle.clap.specs.declared.builder.action.ArgAction.TheVariants.{Set}
use Rattle.clap.specs.declared.builder.value_parser.ValueParser.TheVariants.{String}
use Rattle.command_line.specs.Line.{OptionRule, Takes}

-- an argument that takes one value, once
abbrev pub set_rule : Text → Option Text → Option ℕ → Bool → Rule
set_rule id long index required = record (new_rule id) {
  long = long;
  index = index;
  action = Some Set;
  range = Some (record { start_inclusive = 1; end_inclusive = 1 });
  parser = Some String;
  required = required;
}

-- an option, and a place at an index
abbrev pub option_rule : OptionRule → Rule
option_rule option = set_rule option.name (Some option.name) None option.required

abbrev pub next_index : ℕ → ℕ
next_index index = min (index + 1) usize_max

abbrev pub placed_rules : ℕ → List Text → List Rule
placed_rules index [] = []
placed_rules index (place ∷ places) = set_rule place None (Some index) true ∷ placed_rules (next_index index) places

-- the arguments of a command that is built
abbrev pub built_rules : Takes → List Rule
built_rules takes = placed_rules 1 takes.places ++ map option_rule takes.options

-- a command with these arguments that is built, without help and version and without commands below it
abbrev pub built_shape : List Rule → Shape
built_shape rules = record (new_shape (codes "topk")) {
  rules = rules;
  disable_help_flag = true;
  disable_help_subcommand = true;
  disable_version_flag = true;
  is_built = true;
}
