use Rattle.std.proofs.Common.{All, sym, subst}
use Rattle.std.proofs.lemmas.List.Elements.{All-push}
use Rattle.query_run.specs.Made.{IsReadyFor}
use Rattle.test_query_support.proofs.readies.add_ready.Goals as goal

pub returns-in-Ok : goal.returns-in-Ok
returns-in-Ok c = λ _.
    subst (All (IsReadyFor c.args.counts.now)) (sym c.in-Ok.ensures.items)
    (All-push (IsReadyFor c.args.counts.now) c.args.readies.now.items c.in-Some.ready c.requires c.in-Some.ensures)
