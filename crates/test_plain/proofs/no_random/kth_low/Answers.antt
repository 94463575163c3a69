use Rattle.monotone_fn.specs.Value.{value}
use Rattle.test_plain.proofs.Seeing.{seen_apart}
use Rattle.test_plain.proofs.no_random.kth_low.Goals as goal

pub kth_low_of-requires : goal.kth_low_of-requires
kth_low_of-requires c = seen_apart (value c.args.expr.now) _ c.args.accesses.now _ c.in_ok-items.ensures
