use Rattle.wire.proofs.WritingLaws.{head_as}
use Rattle.wire.proofs.writing.write_head.Goals as goal

pub returns-clause-writes : goal.returns-clause-writes
returns-clause-writes g c =
    head_as _ _ _ _ c.write_parts.result c.as_u16.result c.args.status c.args.kind c.reason_of.result.now c.type_of.result.now c.allow_line.result.now
    c.as_u16.ensures.value c.reason_of.ensures c.type_of.ensures c.allow_line.ensures c.write_parts.ensures.writes
