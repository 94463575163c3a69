use Rattle.std.proofs.Common.{[], ◌∷◌}
use Rattle.bundle_text.specs.Bundle.{list_line}
use Rattle.bundle_text.specs.Tracking.{front_of}
use Rattle.bundle_text.proofs.GatherSteps.{row_lines, then_taken, stops_early}
use Rattle.bundle_text.proofs.gather.add_list.Goals as goal

pub take_numbered-requires-clause-other : goal.take_numbered-requires-clause-other
take_numbered-requires-clause-other c = c.heading.ensures.other

pub add_rows-requires-clause-tracked : goal.add_rows-requires-clause-tracked
add_rows-requires-clause-tracked c = (c.in-Ok.ensures (list_line c.args.list.now.name.now) c.heading.ensures.is).tracked

pub add_rows-requires-clause-counted : goal.add_rows-requires-clause-counted
add_rows-requires-clause-counted c = (c.in-Ok.ensures (list_line c.args.list.now.name.now) c.heading.ensures.is).counted

pub returns-in-Ok : goal.returns-in-Ok
returns-in-Ok c =
    let list = c.args.list.now in
    then_taken (list_line list.name.now ∷ []) (row_lines list.rows.now) (front_of c.args.reader.now) c.args.number c.take_numbered.new.self c.in-Ok.next
    c.add_rows.new.reader c.add_rows.result (c.in-Ok.ensures (list_line list.name.now) c.heading.ensures.is) c.add_rows.ensures

pub returns-in-Err : goal.returns-in-Err
returns-in-Err c =
    let list = c.args.list.now in
    stops_early (list_line list.name.now ∷ []) (row_lines list.rows.now) (front_of c.args.reader.now) c.args.number c.take_numbered.new.self c.in-Err.fault
    (c.in-Err.ensures (list_line list.name.now) c.heading.ensures.is)
