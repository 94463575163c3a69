use Rattle.std.proofs.Common.{arith}
use Rattle.topk_theory.specs.Transcript.{seen_objects}
use Rattle.cert_judge.proofs.Tame.{untold, told}
use Rattle.cert_judge.proofs.Unseen.{seen_next}
use Rattle.cert_judge.proofs.extremes.least_unseen.Goals as goal

pub returns-then-not-is_seen-clause-found : goal.returns-then-not-is_seen-clause-found
returns-then-not-is_seen-clause-found c = record {
  room = omega arith;
  below = omega arith;
  unseen = untold _ _ c.is_seen.ensures c.if-not-is_seen.true;
  others = c.loop-object.invariant;
}

pub loop-object-preserved : goal.loop-object-preserved
loop-object-preserved c =
    seen_next (seen_objects c.args.transcript.now.accesses) c.loop-object.object c.loop-object.invariant (told _ _ c.is_seen.ensures c.if-not-is_seen.false)
