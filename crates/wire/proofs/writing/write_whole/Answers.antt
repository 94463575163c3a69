use Rattle.wire.proofs.WritingLaws.{whole_as}
use Rattle.wire.proofs.writing.write_whole.Goals as goal

pub returns-clause-writes : goal.returns-clause-writes
returns-clause-writes g c =
    whole_as _ _ _ _ c.write_parts.result c.as_u16.result c.args.status c.args.kind c.reason_of.result.now c.type_of.result.now c.allow_line.result.now c.args.body.now c.args.end.now
    c.as_u16.ensures.value c.reason_of.ensures c.type_of.ensures c.allow_line.ensures c.write_parts.ensures.writes
