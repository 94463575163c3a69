use Rattle.std.proofs.Common.{length, subst, sym, ap, ◌∙◌, arith}
use Rattle.made_inputs.proofs.Making.{AreApart, grade_after, rows_apart, rows_length}
use Rattle.made_inputs.proofs.table.next_list.Goals as goal

pub sort_by_grade-requires : goal.sort_by_grade-requires
sort_by_grade-requires c =
    subst AreApart (sym (c.deref_mut.ensures.value ∙ c.in_ok-rows.ensures.rows)) (rows_apart (grade_after c.args.generator.now.state) c.args.count)

pub list_of-requires : goal.list_of-requires
list_of-requires c =
    let rows = ap length (c.deref_mut.ensures.value ∙ c.in_ok-rows.ensures.rows) ∙ rows_length c.args.generator.now.state c.args.count in
    let lent = c.deref_mut.ensures.len in
    let fits = c.ranges.count.fits in
    omega (arith, c.deref.ensures.len, rows, lent, fits)
