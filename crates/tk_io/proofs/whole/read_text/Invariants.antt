use Rattle.std.proofs.Common.{◌≡◌, ◌+◌, ◌-◌, ◌≤◌, vec_len}
use Rattle.std.specs.Io.KnownBytes.{Consumes}
use Rattle.tk_io.proofs.whole.read_text.Given as goal

-- the text so far came from the stream, at most one byte more than the limit, and no call failed
abbrev pub invariant-loop-text : goal.invariant-loop-text
invariant-loop-text g l =
    (g.R.Intake.faults l.input ≡ g.R.Intake.faults l.fn.input)
    × Consumes (g.R.Intake.left l.fn.input) (g.R.Intake.left l.input) l.text.items
    × (vec_len l.text ≤ l.limit + 1)
    × (g.R.Intake.aside l.input ≡ g.R.Intake.aside l.fn.input)

abbrev pub decreases-loop-text : goal.decreases-loop-text
decreases-loop-text g l = l.limit + 1 - vec_len l.text
