use Rattle.std.proofs.Common.{sym, subst, ap, ◌∙◌}
use Rattle.bulk_run.specs.Endings.{HasRoom, with_ending}
use Rattle.bulk_run.proofs.Summing.{has_room, sums_more}
use Rattle.bulk_run.proofs.sums.sums_of.Goals as goal

pub count-requires-clause-room : goal.count-requires-clause-room
count-requires-clause-room c =
    subst HasRoom (sym c.loop-place.invariant) (has_room c.args.endings.now c.loop-place.place c.loop-place-test.true c.requires.few c.requires.small)

pub loop-place-preserved : goal.loop-place-preserved
loop-place-preserved c =
    let ending = c.index-endings-place.result in
    c.count.ensures ∙ ap (with_ending ending) c.loop-place.invariant
    ∙ sym (sums_more c.args.endings.now c.loop-place.place ending c.loop-place-test.true (sym c.index-endings-place.is))
