use Rattle.wire.proofs.TargetLaws.{behind_part}
use Rattle.wire.proofs.target.behind_authority.Goals as goal

pub returns-clause-front : goal.returns-clause-front
returns-clause-front c = behind_part c.args.bytes.now c.authority_len-len.result c.authority_len-len.ensures.len
