use Rattle.cert_judge.specs.Outside.{AreAllSeen}
use Rattle.cert_judge.proofs.extremes.least_unseen.Given as goal

abbrev pub invariant-loop-object : goal.invariant-loop-object
invariant-loop-object l = AreAllSeen l.transcript.accesses l.object
