use Rattle.std.proofs.Common.{List, ℕ, arith}
use Rattle.std.proofs.lemmas.Option.{slice_get-get_or}
use Rattle.tk_io.proofs.Putting.{puts_none, puts_next_of}
use Rattle.wire.specs.Wording.{part_text}
use Rattle.wire.proofs.writing.put_parts.Goals as goal

pub loop-part-init : goal.loop-part-init
loop-part-init g c = puts_none _

pub loop-part-preserved : goal.loop-part-preserved
loop-part-preserved g c =
    puts_next_of (λ (text : List ℕ). text) part_text c.args.parts.now c.loop-part.part-index _ _ _ _ (slice_get-get_or c.args.parts.now c.loop-part.part-index _ (omega arith))
    c.loop-part.invariant c.put_part.ensures
