use Rattle.std.proofs.Common.{nat_le, leb-true, sym, ap, ◌∙◌, arith}
use Rattle.std.proofs.lemmas.Bool.{le-leb}
use Rattle.monotone_fn.specs.Value.{value}
use Rattle.topk_theory.specs.Bounds.{threshold}
use Rattle.machine_base.proofs.BoardCounts.{kth_passes}
use Rattle.restricted_core.proofs.scoring.has_enough.Goals as goal

pub returns-in-Some : goal.returns-in-Some
returns-in-Some c =
    let base = c.args.base.now in
    let bound = threshold (value base.expr) base.transcript.lists base.transcript.accesses in
    ap (λ t. nat_le t c.in-Some.low) c.threshold-threshold.ensures
    ∙ sym (kth_passes c.args.board.now.k (nat_le bound) c.args.board.now.items c.in-Some.low
    (λ one other le passes. le-leb bound other (omega (arith, leb-true bound one passes))) c.in-Some.ensures.by_count)
