use Rattle.std.proofs.Common.{refl}
use Rattle.command_line.proofs.saying.ended.Goals as goal

pub returns-in-Err : goal.returns-in-Err
returns-in-Err c = rw c.in-Err.is refl
