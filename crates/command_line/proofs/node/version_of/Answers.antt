use Rattle.std.proofs.Common.{◌≡◌, Some, None, codes, option_map, sym, ap, ◌∙◌}
use Rattle.clap.specs.Words.{found_of, first_of, rows_of}
use Rattle.clap.proofs.WalkLemmas.{first_value-rows}
use Rattle.command_line.specs.Node.{version_of}
use Rattle.command_line.proofs.NodeLaws.{version_found}
use Rattle.command_line.proofs.node.version_of.Goals as goal

pub returns-in_default : goal.returns-in_default
returns-in_default c =
    let found : first_of (codes "version") (rows_of (found_of c.args.matches.now)) ≡ None =
    sym (c.get_str.ensures ∙ first_value-rows (found_of c.args.matches.now) (codes "version")) ∙ ap (option_map (λ s. s.now)) c.in_default.is in
    sym (ap version_of found)

pub returns-in_default-number_given : goal.returns-in_default-number_given
returns-in_default-number_given c =
    let found : first_of (codes "version") (rows_of (found_of c.args.matches.now)) ≡ Some c.in-Some.text.now =
    sym (c.get_str.ensures ∙ first_value-rows (found_of c.args.matches.now) (codes "version")) ∙ ap (option_map (λ s. s.now)) c.in-Some.is in
    sym (version_found (rows_of (found_of c.args.matches.now)) c.in-Some.text.now c.number_given.result found c.number_given.ensures.number
    ∙ ap (option_map Some) c.in_default-number_given.is)

pub returns : goal.returns
returns c =
    let found : first_of (codes "version") (rows_of (found_of c.args.matches.now)) ≡ Some c.in-Some.text.now =
    sym (c.get_str.ensures ∙ first_value-rows (found_of c.args.matches.now) (codes "version")) ∙ ap (option_map (λ s. s.now)) c.in-Some.is in
    sym (version_found (rows_of (found_of c.args.matches.now)) c.in-Some.text.now c.number_given.result found c.number_given.ensures.number
    ∙ ap (option_map Some) c.in-Some-number_given.is)
