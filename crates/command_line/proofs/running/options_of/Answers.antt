use Rattle.std.proofs.Common.{◌≡◌, Some, None, codes, option_map, sym, ap, ◌∙◌}
use Rattle.clap.specs.Words.{found_of, first_of, rows_of}
use Rattle.clap.proofs.WalkLemmas.{first_value-rows}
use Rattle.command_line.specs.Running.{run_of, settings_in}
use Rattle.command_line.proofs.running.options_of.Goals as goal

pub returns-in_default-get_str-clause-refused : goal.returns-in_default-get_str-clause-refused
returns-in_default-get_str-clause-refused c =
    let rows = rows_of (found_of c.args.matches.now) in
    let found : first_of (codes "catalog") rows ≡ None =
    sym (c.get_str.ensures ∙ first_value-rows (found_of c.args.matches.now) (codes "catalog")) ∙ ap (option_map (λ s. s.now)) c.in_default-get_str.is in
    λ e. ap (λ place. run_of place (settings_in rows)) found

pub returns-in-Ok-clause-read : goal.returns-in-Ok-clause-read
returns-in-Ok-clause-read c =
    let rows = rows_of (found_of c.args.matches.now) in
    let found : first_of (codes "catalog") rows ≡ Some c.in-Some-get_str.name.now =
    sym (c.get_str.ensures ∙ first_value-rows (found_of c.args.matches.now) (codes "catalog")) ∙ ap (option_map (λ s. s.now)) c.in-Some-get_str.is in
    ap (λ place. run_of place (settings_in rows)) found
    ∙ ap (run_of (Some c.in-Some-get_str.name.now)) (sym c.in-Some.ensures.found)
    ∙ ap (λ place. Some (record { catalog = place; settings = c.in-Some.settings })) (sym c.in-Ok.ensures)
