use Rattle.std.proofs.Common.{◌≡◌, map, drop}
use Rattle.clap.specs.Words.{app_of}
use Rattle.command_line.specs.Apps.{bare_app, rule_of_argument, with_rules}
use Rattle.command_line.proofs.arguments.command_with.Given as goal

abbrev pub invariant-loop-argument : goal.invariant-loop-argument
invariant-loop-argument l =
    with_rules (app_of l.command) (map rule_of_argument (drop l.argument-index l.arguments)) ≡ with_rules bare_app (map rule_of_argument l.arguments)
