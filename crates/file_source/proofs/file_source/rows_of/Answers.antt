use Rattle.std.proofs.Common.{◌∙◌, Some, map, ap}
use Rattle.std.proofs.lemmas.List.{take_all}
use Rattle.file_source.proofs.file_source.rows_of.Goals as goal

pub loop-record-init : goal.loop-record-init
loop-record-init c = ap (map (λ row. Some row)) c.in_ok-rows.ensures.items

pub returns : goal.returns
returns c = c.loop-record.invariant ∙ take_all c.loop-record.record-index c.args.records.now c.loop-record-test.false
