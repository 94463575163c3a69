use Rattle.std.proofs.Common.{sym, ◌∙◌}
use Rattle.restricted_core.proofs.Steps.{end_kept, over_few, depth_over, next_depth_kept}
use Rattle.restricted_core.proofs.following.ask_or_end.Goals as goal

pub put_new-requires-clause-few : goal.put_new-requires-clause-few
put_new-requires-clause-few c =
    let b = c.args.base.now in
    over_few b.expr b.k b.room b.transcript.lists b.transcript.count b.transcript.accesses c.args.sorted.now c.args.board.now c.args.depth c.args.whole c.args.place c.requires

pub returns-then-may_stop : goal.returns-then-may_stop
returns-then-may_stop c =
    let b = c.args.base.now in
    end_kept b.expr b.k b.room b.transcript.lists b.transcript.count b.transcript.accesses c.args.sorted.now c.put_new.new.board c.args.depth
    (depth_over b.expr b.k b.room b.transcript.lists b.transcript.count b.transcript.accesses c.args.sorted.now c.args.board.now c.put_new.new.board c.args.depth c.args.whole c.args.place
    c.requires (sym c.ask_from.ensures ∙ c.in_default.is) c.put_new.ensures)
    (sym c.may_stop.ensures ∙ c.if-may_stop.true)

pub returns : goal.returns
returns c =
    let b = c.args.base.now in
    next_depth_kept b.expr b.k b.room b.transcript.lists b.transcript.count b.transcript.accesses c.args.sorted.now c.put_new.new.board c.args.depth c.in-Some-next_sorted.list c.seen.result
    (depth_over b.expr b.k b.room b.transcript.lists b.transcript.count b.transcript.accesses c.args.sorted.now c.args.board.now c.put_new.new.board c.args.depth c.args.whole c.args.place
    c.requires (sym c.ask_from.ensures ∙ c.in_default.is) c.put_new.ensures)
    (sym c.may_stop.ensures ∙ c.if-may_stop.false) c.in-Some-next_sorted.ensures c.seen.ensures
