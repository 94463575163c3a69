use Rattle.std.proofs.Common.{◌∙◌, get_or, sym, ap}
use Rattle.ranked_list.specs.declared.row.Row.{Row}
use Rattle.source_api.specs.Told.{kept_first}
use Rattle.source_api.proofs.ToldLaws.{first_grade_more}
use Rattle.test_mem_source.proofs.source_in_memory.grades_of.Goals as goal

abbrev no_row : Row
no_row = record { object = 0; grade = 0 }

pub loop-row-preserved : goal.loop-row-preserved
loop-row-preserved c = λ object.
    c.in_ok-keep_first.ensures object
    ∙ ap (λ kept. kept_first kept (get_or c.args.rows.now c.loop-row.row-index no_row) object) (c.loop-row.invariant object)
    ∙ sym (first_grade_more c.args.rows.now c.loop-row.row-index no_row object c.loop-row-test.true)
