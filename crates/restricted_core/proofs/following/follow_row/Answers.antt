use Rattle.restricted_core.proofs.Steps.{next_kept, over_after_row}
use Rattle.restricted_core.proofs.following.follow_row.Goals as goal

pub returns-in-Some : goal.returns-in-Some
returns-in-Some c =
    let b = c.args.base.now in
    next_kept b.expr b.k b.room b.transcript.lists b.transcript.count b.transcript.accesses c.args.sorted.now c.args.board.now c.args.list c.args.depth c.args.whole c.in-Some.next
    c.requires c.in-Some.ensures

pub ask_or_end-requires : goal.ask_or_end-requires
ask_or_end-requires c =
    let b = c.args.base.now in
    over_after_row b.expr b.k b.room b.transcript.lists b.transcript.count b.transcript.accesses c.args.sorted.now c.args.board.now c.args.list c.args.depth c.args.whole
    c.requires c.in-None.ensures
