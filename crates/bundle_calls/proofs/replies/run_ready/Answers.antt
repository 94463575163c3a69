use Rattle.bundle_calls.proofs.replies.run_ready.Goals as goal

pub returns-in-Ok : goal.returns-in-Ok
returns-in-Ok c = rw c.from_vec.ensures (record { becomes = c.in-Ok.ensures.becomes; writable = c.in-Ok.ensures.writable })
