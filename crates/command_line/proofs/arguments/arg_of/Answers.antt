use Rattle.std.proofs.Common.{ap, sym, ◌∙◌}
use Rattle.command_line.specs.Apps.{rule_of_argument}
use Rattle.command_line.proofs.RuleLaws.{named_rule, needed_rule}
use Rattle.command_line.proofs.arguments.arg_of.Goals as goal

pub returns-in-Place-clause-rule : goal.returns-in-Place-clause-rule
returns-in-Place-clause-rule c = needed_rule c.new.result c.required.result _ c.required.ensures c.new.ensures.rule ∙ ap rule_of_argument (sym c.in-Place.is)

pub returns-in-Needed-clause-rule : goal.returns-in-Needed-clause-rule
returns-in-Needed-clause-rule c =
    needed_rule c.long.result c.required-in-Needed.result _ c.required-in-Needed.ensures
    (named_rule c.new-in-Needed.result c.long.result _ c.in-Needed.name c.long.ensures c.new-in-Needed.ensures.rule)
    ∙ ap rule_of_argument (sym c.in-Needed.is)

pub returns-in-Free-clause-rule : goal.returns-in-Free-clause-rule
returns-in-Free-clause-rule c =
    named_rule c.new-in-Free.result c.long-in-Free.result _ c.in-Free.name c.long-in-Free.ensures c.new-in-Free.ensures.rule
    ∙ ap rule_of_argument (sym c.in-Free.is)
