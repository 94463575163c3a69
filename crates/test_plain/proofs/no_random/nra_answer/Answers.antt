use Rattle.std.proofs.Common.{◌∙◌}
use Rattle.monotone_fn.specs.Value.{value}
use Rattle.topk_theory.specs.NoRandom.{nra_depth}
use Rattle.test_plain.proofs.Descending.{capped_to}
use Rattle.test_plain.proofs.no_random.nra_answer.Goals as goal

pub first_seen-requires : goal.first_seen-requires
first_seen-requires c =
    capped_to c.args.lists.now c.args.expr.now (nra_depth (value c.args.expr.now) c.args.k c.args.lists.now) _ c.requires (c.deref.ensures.value ∙ c.in_ok-accesses.ensures)
