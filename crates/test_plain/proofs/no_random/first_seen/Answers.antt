use Rattle.monotone_fn.specs.Value.{value}
use Rattle.test_plain.proofs.Seeing.{seen_apart}
use Rattle.test_plain.proofs.no_random.first_seen.Goals as goal

pub first_k-requires : goal.first_k-requires
first_k-requires c = seen_apart (value c.args.expr.now) _ c.args.accesses.now _ c.in_ok-items.ensures
