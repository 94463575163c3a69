use Rattle.std.proofs.Common.{◌≡◌, subst, arith}
use Rattle.monotone_fn.specs.Value.{value}
use Rattle.monotone_fn.specs.Limits.{IsExpr}
use Rattle.monotone_fn.proofs.Laws.{value-monotone, value-IsExpr, top_value-IsExpr}
use Rattle.monotone_fn.proofs.expr.Expr.eval.Goals as goal

pub returns-clause-bounded : goal.returns-clause-bounded
returns-clause-bounded c =
    let made = subst IsExpr c.self.view_is c.self.invariant.0 in
    let at : c.value_of.result ≡ value c.args.self.now c.args.grades.now = cc (c.value_of.ensures.value, c.self.view_is) in
    omega (arith, value-IsExpr c.args.self.now c.args.grades.now made c.requires.lists c.requires.capped)

pub returns-clause-small : goal.returns-clause-small
returns-clause-small c =
    top_value-IsExpr c.args.self.now (subst IsExpr c.self.view_is c.self.invariant.0)

pub returns-clause-monotone : goal.returns-clause-monotone
returns-clause-monotone c = value-monotone c.args.self.now
