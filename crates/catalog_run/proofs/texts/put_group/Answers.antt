use Rattle.std.proofs.Common.{length, refl, subst, sym}
use Rattle.std.proofs.lemmas.Option.{slice_get_read}
use Rattle.tk_io.proofs.Putting.{puts_none}
use Rattle.catalog_run.specs.Texts.{AreTexts}
use Rattle.catalog_run.proofs.LineTexts.{puts_line, made_some}
use Rattle.catalog_run.proofs.texts.put_group.Goals as goal

pub loop-place-init : goal.loop-place-init
loop-place-init g c = puts_none _

pub put_line-requires-clause-text : goal.put_line-requires-clause-text
put_line-requires-clause-text g c =
    made_some c.args.first c.loop-place.place c.args.outcomes.now c.deref.result.now c.index-outcomes-place.result c.made_at-text.result
    (subst (AreTexts c.args.first c.args.outcomes.now) (sym c.deref.ensures.value) c.texts_of-texts.ensures)
    (slice_get_read c.args.outcomes.now (length c.args.outcomes.now) c.loop-place.place c.index-outcomes-place.result refl c.loop-place-test.true c.index-outcomes-place.is) c.made_at-text.ensures

pub loop-place-preserved : goal.loop-place-preserved
loop-place-preserved g c =
    puts_line c.args.first c.args.outcomes.now c.loop-place.place c.index-outcomes-place.result _ _ _
    (slice_get_read c.args.outcomes.now (length c.args.outcomes.now) c.loop-place.place c.index-outcomes-place.result refl c.loop-place-test.true c.index-outcomes-place.is)
    c.loop-place.invariant c.put_line.ensures
