use Rattle.std.proofs.Common.{◌≡◌, length, take}
use Rattle.topk_theory.specs.Transcript.{sorted_rows}
use Rattle.cert_judge.proofs.beating.read_rows.Given as goal

abbrev pub invariant-loop-access : goal.invariant-loop-access
invariant-loop-access l = l.rows ≡ sorted_rows l.list (take (length l.yielded) l.transcript.accesses)
