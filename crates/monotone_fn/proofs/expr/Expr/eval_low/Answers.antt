use Rattle.std.proofs.Common.{◌≡◌, arith}
use Rattle.monotone_fn.specs.Value.{low}
use Rattle.monotone_fn.proofs.Fills.{AreGrades-with_zeros}
use Rattle.monotone_fn.proofs.Laws.{low-le-value}
use Rattle.monotone_fn.proofs.expr.Expr.eval_low.Goals as goal

pub value_of-requires-clause-capped : goal.value_of-requires-clause-capped
value_of-requires-clause-capped c =
    rw c.zeros_filled-grades.ensures (AreGrades-with_zeros c.args.known.now c.requires.capped)

pub returns-clause-below : goal.returns-clause-below
returns-clause-below c = λ bottoms grades within.
    let e : c.value_of.result ≡ low c.args.self.now c.args.known.now = cc (c.zeros_filled-grades.ensures, c.value_of.ensures.value, c.self.view_is) in
    omega (arith, low-le-value c.args.self.now c.args.known.now bottoms grades within)
