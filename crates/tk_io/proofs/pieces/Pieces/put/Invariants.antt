use Rattle.std.proofs.Common.{◌≡◌, ◌-◌, length, false}
use Rattle.tk_io.proofs.Putting.{Goes}
use Rattle.tk_io.proofs.pieces.Pieces.put.Given as goal

-- so far no write failed, and the front of the text was sent or waits
abbrev pub invariant-loop-done : goal.invariant-loop-done
invariant-loop-done g l =
    (l.self-inside.failed ≡ false)
    × Goes 8192 (g.K.Sink.held l.fn.out) (g.K.Sink.held l.out) (g.K.Sink.faults l.fn.out) (g.K.Sink.faults l.out) l.initial.self-inside.waiting.items l.self-inside.waiting.items l.text l.done
    × (g.K.Sink.aside l.out ≡ g.K.Sink.aside l.fn.out)

abbrev pub decreases-loop-done : goal.decreases-loop-done
decreases-loop-done g l = length l.text - l.done
