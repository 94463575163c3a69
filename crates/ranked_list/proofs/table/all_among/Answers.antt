use Rattle.std.proofs.Common.{sym, ◌∙◌}
use Rattle.std.proofs.lemmas.Bool.{both_ways, false≢true}
use Rattle.std.specs.Prelude.{nat_eq}
use Rattle.std.specs.HashSet.{contains}
use Rattle.ranked_list.proofs.TableLaws.{at_place, among_more, has_at}
use Rattle.ranked_list.proofs.table.all_among.Goals as goal

pub returns-then-not-contains : goal.returns-then-not-contains
returns-then-not-contains c =
    let at = at_place c.args.rows.now c.loop-place.place c.in-Some.row c.in-Some.ensures in
    (λ e. absurd (false≢true e), λ all. absurd (both_ways _ (sym c.contains.ensures ∙ c.if-not-contains.true) (all c.in-Some.row.object (has_at c.args.rows.now c.loop-place.place c.in-Some.row at))))

pub loop-place-preserved : goal.loop-place-preserved
loop-place-preserved c =
    let at = at_place c.args.rows.now c.loop-place.place c.in-Some.row c.in-Some.ensures in
    among_more c.args.rows.now c.loop-place.place c.in-Some.row (contains nat_eq c.args.set.now) at c.loop-place.invariant (sym c.contains.ensures ∙ c.if-not-contains.false)
