use Rattle.bundle_text.specs.Gathering.{lines_given}
use Rattle.bundle_text.specs.Tracking.{front_of}
use Rattle.bundle_text.proofs.GatherSteps.{row_lines, then_taken, stops_early}
use Rattle.bundle_text.proofs.gather.add_all.Goals as goal

pub add_lists-requires-clause-tracked : goal.add_lists-requires-clause-tracked
add_lists-requires-clause-tracked c = c.in-Ok.ensures.tracked

pub add_lists-requires-clause-counted : goal.add_lists-requires-clause-counted
add_lists-requires-clause-counted c = c.in-Ok.ensures.counted

pub returns-in-Ok : goal.returns-in-Ok
returns-in-Ok c =
    then_taken (row_lines c.args.rows.now) (lines_given c.args.lists.now) (front_of c.args.reader.now) 2 c.add_rows.new.reader c.in-Ok.next
    c.add_lists.new.reader c.add_lists.result c.in-Ok.ensures c.add_lists.ensures

pub returns-in-Err : goal.returns-in-Err
returns-in-Err c =
    stops_early (row_lines c.args.rows.now) (lines_given c.args.lists.now) (front_of c.args.reader.now) 2 c.add_rows.new.reader c.in-Err.fault c.in-Err.ensures
