use Rattle.std.proofs.Common.{◌≡◌, Some, None, codes, option_map, refl, sym, ap, ◌∙◌}
use Rattle.clap.specs.Words.{found_of, first_of, rows_of}
use Rattle.clap.proofs.WalkLemmas.{first_value-rows}
use Rattle.command_line.proofs.NodeLaws.{node_by}
use Rattle.command_line.proofs.node.options_of.Goals as goal

pub returns-in_default-get_str-clause-refused : goal.returns-in_default-get_str-clause-refused
returns-in_default-get_str-clause-refused c =
    let rows = rows_of (found_of c.args.matches.now) in
    let place : first_of (codes "catalog") rows ≡ None =
    sym (c.get_str.ensures ∙ first_value-rows (found_of c.args.matches.now) (codes "catalog")) ∙ ap (option_map (λ s. s.now)) c.in_default-get_str.is in
    λ e. node_by rows (Some c.in-Some.listening) (Some c.in-Some-version_of.version) None (first_of (codes "name") rows) (sym c.in-Some.ensures) (sym c.in-Some-version_of.ensures) place refl

pub returns-in_default-get_str-2-clause-refused : goal.returns-in_default-get_str-2-clause-refused
returns-in_default-get_str-2-clause-refused c =
    let rows = rows_of (found_of c.args.matches.now) in
    let place : first_of (codes "catalog") rows ≡ Some c.in-Some-get_str.place.now =
    sym (c.get_str.ensures ∙ first_value-rows (found_of c.args.matches.now) (codes "catalog")) ∙ ap (option_map (λ s. s.now)) c.in-Some-get_str.is in
    let name : first_of (codes "name") rows ≡ None =
    sym (c.get_str-2.ensures ∙ first_value-rows (found_of c.args.matches.now) (codes "name")) ∙ ap (option_map (λ s. s.now)) c.in_default-get_str-2.is in
    λ e. node_by rows (Some c.in-Some.listening) (Some c.in-Some-version_of.version) (Some c.in-Some-get_str.place.now) None (sym c.in-Some.ensures) (sym c.in-Some-version_of.ensures) place name

pub returns-in-Ok-make-clause-read : goal.returns-in-Ok-make-clause-read
returns-in-Ok-make-clause-read c =
    let rows = rows_of (found_of c.args.matches.now) in
    let place : first_of (codes "catalog") rows ≡ Some c.in-Some-get_str.place.now =
    sym (c.get_str.ensures ∙ first_value-rows (found_of c.args.matches.now) (codes "catalog")) ∙ ap (option_map (λ s. s.now)) c.in-Some-get_str.is in
    let name : first_of (codes "name") rows ≡ Some c.in-Some-get_str-2.list.now =
    sym (c.get_str-2.ensures ∙ first_value-rows (found_of c.args.matches.now) (codes "name")) ∙ ap (option_map (λ s. s.now)) c.in-Some-get_str-2.is in
    let listening = c.in-Some.listening in
    let version = c.in-Some-version_of.version in
    node_by rows (Some listening) (Some version) (Some c.in-Some-get_str.place.now) (Some c.in-Some-get_str-2.list.now) (sym c.in-Some.ensures) (sym c.in-Some-version_of.ensures) place name
    ∙ ap (λ at. Some (record { catalog = at; name = c.in-Some-get_str-2.list.now; listening = listening; version = version })) (sym c.in-Ok.ensures)
    ∙ ap (λ list. Some (record { catalog = c.in-Ok.catalog; name = list; listening = listening; version = version })) (sym c.in-Ok-make.ensures)
