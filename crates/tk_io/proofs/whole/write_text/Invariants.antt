use Rattle.std.proofs.Common.{◌≡◌, ◌-◌, ◌≤◌, length, take}
use Rattle.std.specs.Io.KnownBytes.{Appends}
use Rattle.tk_io.proofs.whole.write_text.Given as goal

-- the front of the text was taken, and no call failed
abbrev pub invariant-loop-done : goal.invariant-loop-done
invariant-loop-done g l =
    (l.done ≤ length l.text) × (g.K.Sink.faults l.out ≡ g.K.Sink.faults l.fn.out)
    × Appends (g.K.Sink.held l.fn.out) (g.K.Sink.held l.out) (take l.done l.text)
    × (g.K.Sink.aside l.out ≡ g.K.Sink.aside l.fn.out)

abbrev pub decreases-loop-done : goal.decreases-loop-done
decreases-loop-done g l = length l.text - l.done
