use Rattle.std.proofs.Common.{inl, arith}
use Rattle.monotone_fn.specs.Value.{value}
use Rattle.nra_core.proofs.Within.{unseen_by_threshold}
use Rattle.nra_core.proofs.walk.are_unseen_within.Goals as goal

pub returns-then-seen-count : goal.returns-then-seen-count
returns-then-seen-count c = inl (let t = c.if-seen-count.true in omega (arith, c.seen.ensures, c.count.ensures.count))

pub returns : goal.returns
returns c =
    unseen_by_threshold (value c.args.expr.now) c.args.transcript.now c.args.bound c.threshold.result (let t = c.if-seen-count.false in omega (arith, c.seen.ensures, c.count.ensures.count)) c.threshold.ensures
