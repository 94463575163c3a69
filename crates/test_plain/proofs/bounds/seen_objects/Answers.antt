use Rattle.std.proofs.Common.{◌∙◌, take}
use Rattle.test_plain.proofs.Seeing.{seen_next}
use Rattle.test_plain.proofs.bounds.seen_objects.Goals as goal

pub loop-access-preserved : goal.loop-access-preserved
loop-access-preserved c =
    c.in_ok-add_seen.ensures (take c.loop-access.access-index c.args.accesses.now) c.loop-access.invariant
    ∙ seen_next c.args.accesses.now c.loop-access.access-index _ c.loop-access-test.true
