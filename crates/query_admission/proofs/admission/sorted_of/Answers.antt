use Rattle.std.proofs.Common.{arith}
use Rattle.query_admission.proofs.Seeking.{gathered_more}
use Rattle.query_admission.proofs.admission.sorted_of.Goals as goal

pub loop-list-preserved : goal.loop-list-preserved
loop-list-preserved c = gathered_more (λ list. list.sorted) c.args.lists.now c.loop-list.list-index _ _ _ (omega arith) c.loop-list.invariant c.in-Ok.ensures.items
