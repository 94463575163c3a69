use Rattle.std.proofs.Common.{◌≡◌, Some, None, option_map, sym, ap, ◌∙◌}
use Rattle.clap.specs.Words.{found_of, first_of, rows_of}
use Rattle.clap.proofs.WalkLemmas.{first_value-rows}
use Rattle.command_line.specs.OptionNumbers.{number_or}
use Rattle.command_line.proofs.running.number_or.Goals as goal

pub returns-in-Some-clause-number : goal.returns-in-Some-clause-number
returns-in-Some-clause-number c =
    let found : first_of c.args.name.now (rows_of (found_of c.args.matches.now)) ≡ Some c.in-Some.text.now =
    sym (c.get_str.ensures ∙ first_value-rows (found_of c.args.matches.now) c.args.name.now) ∙ ap (option_map (λ s. s.now)) c.in-Some.is in
    c.number_given.ensures.number ∙ ap (λ value. number_or c.args.default value c.args.least c.args.most) (sym found)

pub returns-in-None-clause-number : goal.returns-in-None-clause-number
returns-in-None-clause-number c =
    let found : first_of c.args.name.now (rows_of (found_of c.args.matches.now)) ≡ None =
    sym (c.get_str.ensures ∙ first_value-rows (found_of c.args.matches.now) c.args.name.now) ∙ ap (option_map (λ s. s.now)) c.in-None.is in
    ap (λ value. number_or c.args.default value c.args.least c.args.most) (sym found)
