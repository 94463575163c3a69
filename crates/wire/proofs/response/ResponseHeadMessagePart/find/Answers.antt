use Rattle.std.proofs.Common.{Err, ap, refl}
use Rattle.wire.proofs.FindLaws.{many_head}
use Rattle.wire.proofs.response.ResponseHeadMessagePart.find.Goals as goal

pub returns-in-Err-TooManyHeaders : goal.returns-in-Err-TooManyHeaders
returns-in-Err-TooManyHeaders c =
    many_head c.args.came.now 64 refl (c.in-Err-TooManyHeaders.ensures.too_many (ap Err c.in-Err-TooManyHeaders.field-0-is)) c.in-Err-TooManyHeaders.ensures.no_room
