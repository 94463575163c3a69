use Rattle.std.proofs.Common.{Err, subst, sym}
use Rattle.monotone_fn.specs.Shape.{NumbersLists}
use Rattle.monotone_fn.specs.Limits.{Makes}
use Rattle.made_inputs.proofs.Lawful.{made_numbers, none_refused}
use Rattle.made_inputs.proofs.expression.made_expr.Goals as goal

pub make-requires : goal.make-requires
make-requires c = subst NumbersLists (sym c.in_ok-root.ensures) (made_numbers c.args.number c.args.lists c.requires.some c.requires.few)

pub unreachable-requires : goal.unreachable-requires
unreachable-requires c =
    none_refused c.args.number c.args.lists c.in-Err.field-0 c.requires.some c.requires.few (subst (λ t. Makes t (Err c.in-Err.field-0)) c.in_ok-root.ensures c.in-Err.ensures)
