use Rattle.std.proofs.Common.{◌∙◌, sym, length}
use Rattle.monotone_fn.specs.Shape.{list_count}
use Rattle.monotone_fn.specs.Value.{value}
use Rattle.topk_theory.specs.NoRandom.{is_quiet, nra_run_to}
use Rattle.test_plain.proofs.Descending.{capped_to, quiet_at}
use Rattle.test_plain.proofs.Least.{least_more}
use Rattle.test_plain.proofs.no_random.nra_depth.Goals as goal

pub is_quiet-requires : goal.is_quiet-requires
is_quiet-requires c =
    capped_to c.args.lists.now c.args.expr.now c.loop-depth.depth _ c.requires (c.deref.ensures.value ∙ c.in_ok-accesses.ensures)

pub loop-depth-preserved : goal.loop-depth-preserved
loop-depth-preserved c =
    c.loop-depth.invariant
    ∙ least_more (λ depth. is_quiet (value c.args.expr.now) c.args.k (length c.args.lists.now) c.args.lists.now (nra_run_to c.args.lists.now depth)) c.count_of-count.result c.loop-depth.depth c.loop-depth-test.true
    (sym (quiet_at (value c.args.expr.now) c.args.k (list_count c.args.expr.now) c.args.lists.now _ c.loop-depth.depth _ c.requires.lists (c.deref.ensures.value ∙ c.in_ok-accesses.ensures) c.in_ok-is_quiet.ensures) ∙ c.if-branch.false)
