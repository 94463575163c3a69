use Rattle.std.proofs.Common.{ap, arith, ◌∷◌, [], length, length-append}
use Rattle.command_line.proofs.given.read_each.Goals as goal

pub loop-place-preserved : goal.loop-place-preserved
loop-place-preserved g c =
    omega (arith, ap length c.in-Ok-push.ensures.ok, length-append c.loop-place.words (c.in-Ok.word.now ∷ []), c.loop-place.invariant)
