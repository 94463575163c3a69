use Rattle.std.proofs.Common.{◌≡◌, arith}
use Rattle.monotone_fn.specs.Value.{high}
use Rattle.monotone_fn.proofs.Fills.{AreGrades-with_bottoms}
use Rattle.monotone_fn.proofs.Laws.{value-le-high}
use Rattle.monotone_fn.proofs.expr.Expr.eval_high.Goals as goal

pub value_of-requires-clause-capped : goal.value_of-requires-clause-capped
value_of-requires-clause-capped c =
    rw c.bottoms_filled-grades.ensures (AreGrades-with_bottoms c.args.known.now c.args.bottoms.now c.requires.capped c.requires.bottoms_capped)

pub returns-clause-above : goal.returns-clause-above
returns-clause-above c = λ grades within.
    let e : c.value_of.result ≡ high c.args.self.now c.args.known.now c.args.bottoms.now = cc (c.bottoms_filled-grades.ensures, c.value_of.ensures.value, c.self.view_is) in
    omega (arith, value-le-high c.args.self.now c.args.known.now c.args.bottoms.now grades within)
