use Rattle.std.proofs.Common.{ap, ◌∙◌}
use Rattle.clap.specs.Words.{found_of}
use Rattle.clap.proofs.WalkLemmas.{first_value-rows}
use Rattle.command_line.specs.OptionNumbers.{number_given}
use Rattle.command_line.proofs.making.number_of.Goals as goal

pub returns-clause-number : goal.returns-clause-number
returns-clause-number c =
    c.number_given.ensures.number ∙ ap (λ value. number_given value c.args.least c.args.most) (c.get_str.ensures ∙ first_value-rows (found_of c.args.matches.now) c.args.name.now)
