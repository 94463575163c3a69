use Rattle.std.proofs.Common.{sym, ◌<◌, ◌^◌, rules}
use Rattle.bundle_text.specs.Bundle.{row_line}
use Rattle.bundle_text.specs.Given.{row_given}
use Rattle.bundle_text.proofs.PartLaws.{part_of-row_line}
use Rattle.bundle_text.proofs.gather.add_row.Goals as goal

pub take_numbered-requires-clause-other : goal.take_numbered-requires-clause-other
take_numbered-requires-clause-other c = λ text e. cc

pub returns : goal.returns
returns c =
    let object : c.args.row.object < 2 ^ 32 = search rules in
    let grade : c.args.row.grade < 2 ^ 32 = search rules in
    c.take_numbered.ensures (row_line (row_given c.args.row)) (sym (part_of-row_line (row_given c.args.row) object grade))
