use Rattle.std.proofs.Common.{◌∙◌, ap, unwrap_or}
use Rattle.test_plain.specs.Posed.{no_row}
use Rattle.test_plain.proofs.Reading.{unwrap_get}
use Rattle.test_plain.proofs.table.row_in.Goals as goal

pub returns : goal.returns
returns c = c.unwrap_or.ensures ∙ ap (λ o. unwrap_or o no_row) c.get.ensures ∙ unwrap_get c.args.list.now c.args.place no_row
