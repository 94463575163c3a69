use Rattle.std.proofs.Common.{take}
use Rattle.monotone_fn.specs.Value.{value}
use Rattle.topk_theory.specs.Transcript.{seen_objects}
use Rattle.topk_theory.specs.Bounds.{high}
use Rattle.cert_judge.specs.Extremes.{FindsGreatest}
use Rattle.cert_judge.specs.Outside.{IsOneOutside}
use Rattle.cert_judge.proofs.extremes.greatest_seen.Given as goal

abbrev pub invariant-loop-place : goal.invariant-loop-place
invariant-loop-place l = FindsGreatest (λ object. high (value l.expr) l.transcript.lists l.transcript.accesses object) (IsOneOutside (take l.place (seen_objects l.transcript.accesses)) l.answer) l.best
