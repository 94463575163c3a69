use Rattle.std.proofs.Common.{Contains, get_or, true, subst, ◌∙◌, arith}
use Rattle.std.proofs.lemmas.List.{length-set, take_all}
use Rattle.catalog_open.specs.Wanted.{MarksMore}
use Rattle.catalog_open.proofs.Marking.{mark_more}
use Rattle.catalog_open.proofs.wanted.mark_places.Goals as goal

pub loop-place-preserved : goal.loop-place-preserved
loop-place-preserved c =
    let fits = c.requires c.loop-place.place-index 0 c.loop-place-test.true in
    record {
      long = length-set c.loop-place.marks.items (get_or c.args.places.now c.loop-place.place-index 0) true ∙ c.loop-place.invariant.long;
      more = mark_more c.args.places.now c.loop-place.place-index 0 c.args.marks.now.items c.loop-place.marks.items c.loop-place-test.true
          (omega (arith, fits, c.loop-place.invariant.long)) c.loop-place.invariant.more;
    }

pub returns-clause-marks : goal.returns-clause-marks
returns-clause-marks c =
    subst (λ places. MarksMore (Contains places) c.args.marks.now.items c.loop-place.marks.items) (take_all c.loop-place.place-index c.args.places.now c.loop-place-test.false)
    c.loop-place.invariant.more
