use Rattle.std.proofs.Common.{ℕ, List, ap, ◌∙◌}
use Rattle.tk_io.specs.InMemory.{Incoming}
use Rattle.tk_io.proofs.mem_intake.MemIntake.make.Goals as goal

pub returns : goal.returns
returns c =
    let kept = c.in_ok-from_slice-2.field-0.items in
    ap (λ (bytes : List ℕ). let m : Incoming = record { left = bytes; piece = c.args.piece; fails = kept; calls = 0; faults = 0 } in m) c.in_ok-from_slice.ensures.items
    ∙ ap (λ (fails : List ℕ). let m : Incoming = record { left = c.args.bytes.now; piece = c.args.piece; fails = fails; calls = 0; faults = 0 } in m) c.in_ok-from_slice-2.ensures.items
