use Rattle.std.proofs.Common.{◌≡◌, ◌++◌, take}
use Rattle.cert_judge.proofs.beating.add_rows.Given as goal

abbrev pub invariant-loop-row : goal.invariant-loop-row
invariant-loop-row l = l.rows ≡ l.fn.rows ++ take l.row-index l.more
