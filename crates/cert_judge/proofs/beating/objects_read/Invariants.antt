use Rattle.std.proofs.Common.{◌≡◌, ℕ, length, take}
use Rattle.ranked_list.specs.Table.{objects}
use Rattle.cert_judge.specs.Objects.{has}
use Rattle.cert_judge.proofs.beating.objects_read.Given as goal

abbrev pub invariant-loop-row : goal.invariant-loop-row
invariant-loop-row l = (object : ℕ) → has object l.read ≡ has object (objects (take (length l.yielded) l.rows))
