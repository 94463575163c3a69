use Rattle.std.proofs.Common.{arith}
use Rattle.std.proofs.lemmas.Grind.{common_steps}
use Rattle.tk_io.proofs.Writing.{took_after}
use Rattle.tk_io.proofs.std_sink.write_once.Goals as goal

pub returns-in-Ok-clause-taken : goal.returns-in-Ok-clause-taken
returns-in-Ok-clause-taken g c = took_after _ _ _ _ c.loop.invariant c.in-Ok.ensures.bytes

pub returns-in-Ok-clause-moves : goal.returns-in-Ok-clause-moves
returns-in-Ok-clause-moves g c = λ some. grind (arith, common_steps)
