use Rattle.wire.specs.declared.writing.Kind.TheVariants.{Text}
use Rattle.wire.proofs.WritingLaws.{reason_as}
use Rattle.wire.proofs.writing.write_reason.Goals as goal

pub returns-in-true-clause-writes : goal.returns-in-true-clause-writes
returns-in-true-clause-writes g c = rw c.in-true.is c.write_head.ensures.writes

pub returns-in-false-clause-writes : goal.returns-in-false-clause-writes
returns-in-false-clause-writes g c =
    rw c.in-false.is (reason_as _ _ _ _ c.write_whole.result c.args.status Text c.reason_of.result.now c.reason_of.ensures c.write_whole.ensures.writes)
