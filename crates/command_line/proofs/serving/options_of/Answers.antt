use Rattle.std.proofs.Common.{◌≡◌, Some, None, codes, option_map, sym, ap, ◌∙◌}
use Rattle.clap.specs.Words.{found_of, first_of, rows_of}
use Rattle.clap.proofs.WalkLemmas.{first_value-rows}
use Rattle.command_line.proofs.ServingLaws.{serve_by}
use Rattle.command_line.proofs.serving.options_of.Goals as goal

pub returns-in_default-get_str-clause-refused : goal.returns-in_default-get_str-clause-refused
returns-in_default-get_str-clause-refused c =
    let rows = rows_of (found_of c.args.matches.now) in
    let place : first_of (codes "catalog") rows ≡ None =
    sym (c.get_str.ensures ∙ first_value-rows (found_of c.args.matches.now) (codes "catalog")) ∙ ap (option_map (λ s. s.now)) c.in_default-get_str.is in
    λ e. serve_by rows (Some c.in-Some.listening) (Some c.in-Some-settings_of.settings) None (sym c.in-Some.ensures) (sym c.in-Some-settings_of.ensures.found) place

pub returns-in-Ok-clause-read : goal.returns-in-Ok-clause-read
returns-in-Ok-clause-read c =
    let rows = rows_of (found_of c.args.matches.now) in
    let place : first_of (codes "catalog") rows ≡ Some c.in-Some-get_str.name.now =
    sym (c.get_str.ensures ∙ first_value-rows (found_of c.args.matches.now) (codes "catalog")) ∙ ap (option_map (λ s. s.now)) c.in-Some-get_str.is in
    let listening = c.in-Some.listening in
    let settings = c.in-Some-settings_of.settings in
    serve_by rows (Some listening) (Some settings) (Some c.in-Some-get_str.name.now) (sym c.in-Some.ensures) (sym c.in-Some-settings_of.ensures.found) place
    ∙ ap (λ at. Some (record { catalog = at; listening = listening; settings = settings })) (sym c.in-Ok.ensures)
