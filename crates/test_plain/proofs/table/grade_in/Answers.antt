use Rattle.std.proofs.Common.{◌∙◌, ap, slice_index_or}
use Rattle.ranked_list.specs.declared.row.Row.{Row}
use Rattle.test_plain.specs.Posed.{no_row}
use Rattle.test_plain.proofs.Reading.{grade_at_place}
use Rattle.test_plain.proofs.table.grade_in.Goals as goal

pub returns : goal.returns
returns c = ap (λ (z : Row). z.grade) (c.row_in.ensures ∙ ap (λ p. slice_index_or c.args.list.now p no_row) c.place_in.ensures) ∙ grade_at_place c.args.list.now c.args.object
