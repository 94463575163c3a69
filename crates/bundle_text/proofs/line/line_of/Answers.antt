use Rattle.std.proofs.Common.{sym, ◌∙◌}
use Rattle.std.proofs.lemmas.Bool.{false_from_ne_true, both_ways}
use Rattle.bundle_text.proofs.PartLaws.{part_of-list, part_of-no_name, part_of-query, part_of-row}
use Rattle.bundle_text.proofs.line.line_of.Goals as goal

pub returns-then-is_name : goal.returns-then-is_name
returns-then-is_name c = sym (part_of-list c.args.line.now c.in-Some.name.now (sym c.in-Some.ensures) (c.is_name.ensures.0 c.if-is_name.true))

pub returns-in-Some : goal.returns-in-Some
returns-in-Some c = sym (part_of-no_name c.args.line.now c.in-Some.name.now (sym c.in-Some.ensures) (false_from_ne_true _ (λ e. both_ways _ c.if-is_name.false (c.is_name.ensures.1 e))))

pub returns-in-Some-rest_after : goal.returns-in-Some-rest_after
returns-in-Some-rest_after c = sym (part_of-query c.args.line.now c.in-Some-rest_after.text.now (sym c.in_default.ensures) (sym c.in-Some-rest_after.ensures))

pub returns : goal.returns
returns c = c.row_line.ensures ∙ sym (part_of-row c.args.line.now (sym c.in_default.ensures) (sym c.in_default-rest_after.ensures))
