use Rattle.bulk_run.proofs.Readying.{readies_more}
use Rattle.bulk_run.proofs.readies.made_readies.Goals as goal

pub loop-number-preserved : goal.loop-number-preserved
loop-number-preserved c =
    readies_more c.args.input c.loop-number.number c.loop-number.readies.items c.push.new.self.items c.in_ok-ready.ready c.loop-number.invariant c.in_ok-push.ensures.items
    c.in_ok-ready.ensures
