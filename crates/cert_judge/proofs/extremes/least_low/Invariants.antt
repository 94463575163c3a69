use Rattle.std.proofs.Common.{take, Contains}
use Rattle.monotone_fn.specs.Value.{value}
use Rattle.topk_theory.specs.Bounds.{low}
use Rattle.cert_judge.specs.Extremes.{FindsLeast}
use Rattle.cert_judge.proofs.extremes.least_low.Given as goal

abbrev pub invariant-loop-member : goal.invariant-loop-member
invariant-loop-member l = FindsLeast (λ object. low (value l.expr) l.transcript.lists l.transcript.accesses object) (Contains (take l.member-index l.answer)) l.best
