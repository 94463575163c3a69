use Rattle.std.proofs.Common.{sym, subst, refl, ◌≡◌, ◌<◌}
use Rattle.std.specs.Prelude.{IsSomeAnd}
use Rattle.ranked_list.proofs.order.check_next.Goals as goal

pub returns-in-Some : goal.returns-in-Some
returns-in-Some c =
    let row = c.args.row in
    let least = c.in-Some.above.grade in
    (c.if-row-gt-TOP_GRADE.false, subst (λ last. IsSomeAnd last (λ above. (above.grade < row.grade) × (least ≡ above.grade))) (sym c.in-Some.is) (c.if-above-row.true, refl), refl, refl)
