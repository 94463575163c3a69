use Rattle.std.proofs.Common.{◌≡◌, ◌-◌, Some, slice_get}
use Rattle.topk_theory.specs.Transcript.{list_at}
use Rattle.query_core.specs.Machines.{method_of, state_of}
use Rattle.query_core.proofs.Answering.{steps}
use Rattle.query_core.proofs.Feeding.{may_feed_row, row_told, row_within, row_fed, stranger_fed, room_fed, no_stranger, room_stops}
use Rattle.bundle_calls.proofs.drive.feed_row.Goals as goal
use Rattle.bundle_calls.proofs.drive.feed_row.Goals.{In-Some}

-- the row is the one that the list has at this depth
found : (c : In-Some) → slice_get (list_at c.args.lists.now c.args.list) (c.args.depth - 1) ≡ Some c.in-Some.row
found c = row_told (method_of c.args.machine.now) c.args.lists.now (state_of c.args.machine.now) c.args.list c.args.depth c.from.result c.index-lists-from.result c.in-Some.row c.requires.drives c.requires.run c.requires.need c.from.ensures c.index-lists-from.is c.in-Some.ensures

pub feed_row-requires : goal.feed_row-requires
feed_row-requires c =
    may_feed_row (method_of c.args.machine.now) c.args.lists.now (state_of c.args.machine.now) c.args.list c.args.depth c.in-Some.row c.requires.drives.agrees c.requires.run c.requires.need (found (goal.at.feed_row-requires c).In-Some)

pub unreachable-requires-in-Err-Strangers : goal.unreachable-requires-in-Err-Strangers
unreachable-requires-in-Err-Strangers c =
    let before = state_of c.args.machine.now in
    let fed = stranger_fed c.in-Some.row before (state_of c.feed_row.new.self) c.feed_row.result c.in-Err-Strangers.field-0 c.in-Err-Strangers.field-0-0 c.in-Err-Strangers.field-0-1 c.feed_row.ensures.fed c.in-Err-Strangers.is c.in-Err-Strangers.field-0-is in
    no_stranger (method_of c.args.machine.now) c.args.lists.now before c.args.list c.args.depth c.in-Some.row c.requires.drives c.requires.run c.requires.need (found (goal.at.unreachable-requires-in-Err-Strangers c).In-Some) fed.0 fed.1

pub returns-in-Ok-clause-ok : goal.returns-in-Ok-clause-ok
returns-in-Ok-clause-ok c =
    let method = method_of c.args.machine.now in
    let before = state_of c.args.machine.now in
    steps c.args.lists.now c.args.machine.now c.feed_row.new.self c.feed_row.ensures.same (row_within method c.args.lists.now before c.args.list c.args.depth c.requires.drives.agrees c.requires.run c.requires.need)
    (row_fed method c.args.lists.now before (state_of c.feed_row.new.self) c.args.list c.args.depth c.in-Some.row c.requires.drives c.requires.run c.requires.need (found (goal.at.returns-in-Ok-clause-ok c).In-Some) c.in-Ok.ensures.fed.0 c.in-Ok.ensures.fed.1)

pub returns-in-Err-RoomFull-clause-err : goal.returns-in-Err-RoomFull-clause-err
returns-in-Err-RoomFull-clause-err c =
    let before = state_of c.args.machine.now in
    let fed = room_fed c.in-Some.row before (state_of c.feed_row.new.self) c.feed_row.result c.in-Err-RoomFull.field-0 c.in-Err-RoomFull.room c.feed_row.ensures.fed c.in-Err-RoomFull.is c.in-Err-RoomFull.field-0-is in
    room_stops (method_of c.args.machine.now) c.args.lists.now before c.args.list c.args.depth c.in-Some.row c.in-Err-RoomFull.room c.requires.drives c.requires.run c.requires.need (found (goal.at.returns-in-Err-RoomFull-clause-err c).In-Some) fed.0 fed.1 fed.2
