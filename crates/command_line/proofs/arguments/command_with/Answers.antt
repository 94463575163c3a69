use Rattle.std.proofs.Common.{List, map, ap, sym, ◌∙◌, arith}
use Rattle.std.proofs.lemmas.List.{drop_all}
use Rattle.clap.specs.Words.{app_of, with_rule}
use Rattle.command_line.specs.declared.arguments.Argument.{Argument}
use Rattle.command_line.specs.Apps.{rule_of_argument, with_rules}
use Rattle.command_line.proofs.RuleLaws.{rules_next}
use Rattle.command_line.proofs.arguments.command_with.Goals as goal

pub loop-argument-preserved : goal.loop-argument-preserved
loop-argument-preserved c =
    rules_next (app_of c.loop-argument.command) (app_of c.in_ok-command.command) _ c.args.arguments.now c.loop-argument.argument-index _ (omega arith)
    (c.in_ok-command.ensures.shape c.arg_of.ensures.local ∙ ap (with_rule (app_of c.loop-argument.command)) c.arg_of.ensures.rule) c.loop-argument.invariant

pub returns : goal.returns
returns c =
    ap (λ (left : List Argument). with_rules (app_of c.loop-argument.command) (map rule_of_argument left)) (sym (drop_all c.loop-argument.argument-index c.args.arguments.now (omega arith)))
    ∙ c.loop-argument.invariant
