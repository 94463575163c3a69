use Rattle.std.proofs.Common.{Ok, Err, arith, ◌+◌}
use Rattle.bundle_text.specs.Tracking.{front_of}
use Rattle.bundle_text.proofs.GatherSteps.{taken_none, row_more, rows_stop, rows_taken}
use Rattle.bundle_text.proofs.gather.add_rows.Goals as goal

pub loop-place-init : goal.loop-place-init
loop-place-init c = taken_none c.args.reader.now c.args.number c.requires.tracked c.requires.counted

pub add_row-requires-clause-tracked : goal.add_row-requires-clause-tracked
add_row-requires-clause-tracked c = c.loop-place.invariant.tracked

pub add_row-requires-clause-counted : goal.add_row-requires-clause-counted
add_row-requires-clause-counted c = c.loop-place.invariant.counted

pub loop-place-preserved : goal.loop-place-preserved
loop-place-preserved c =
    row_more c.args.rows.now c.loop-place.place _ (front_of c.args.reader.now) c.args.number c.loop-place.reader c.loop-place.next
    c.add_row.new.reader (Ok c.in-Ok.after) (omega arith) c.loop-place.invariant c.in-Ok.ensures

pub returns-in-Err : goal.returns-in-Err
returns-in-Err c =
    rows_stop c.args.rows.now (c.loop-place.place + 1) (front_of c.args.reader.now) c.args.number c.add_row.new.reader c.in-Err.fault
    (row_more c.args.rows.now c.loop-place.place _ (front_of c.args.reader.now) c.args.number c.loop-place.reader c.loop-place.next
    c.add_row.new.reader (Err c.in-Err.fault) (omega arith) c.loop-place.invariant c.in-Err.ensures)

pub returns : goal.returns
returns c =
    rows_taken c.args.rows.now c.loop-place.place (front_of c.args.reader.now) c.args.number c.loop-place.reader c.loop-place.next (omega arith)
    c.loop-place.invariant
