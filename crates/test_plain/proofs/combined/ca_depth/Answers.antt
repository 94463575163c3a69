use Rattle.std.proofs.Common.{◌∙◌, sym, ap, length, ◌-◌}
use Rattle.monotone_fn.specs.Shape.{list_count}
use Rattle.monotone_fn.specs.Value.{value}
use Rattle.topk_theory.specs.Threshold.{least_from}
use Rattle.topk_theory.specs.NoRandom.{is_quiet}
use Rattle.topk_theory.specs.Combined.{ca_run_to, ca_depth}
use Rattle.test_plain.proofs.Capped.{run_capped, quiet_at}
use Rattle.test_plain.proofs.Least.{least_more, least_found}
use Rattle.test_plain.proofs.combined.ca_depth.Goals as goal

pub is_quiet-requires : goal.is_quiet-requires
is_quiet-requires c =
    run_capped (value c.args.expr.now) c.args.k c.phase_length-phase.result c.args.lists.now c.args.expr.now c.loop-depth.depth _ c.requires.posed (c.deref.ensures.value ∙ c.in_ok-accesses.ensures)

pub loop-depth-preserved : goal.loop-depth-preserved
loop-depth-preserved c =
    c.loop-depth.invariant
    ∙ least_more (λ depth. is_quiet (value c.args.expr.now) c.args.k (length c.args.lists.now) c.args.lists.now (ca_run_to (value c.args.expr.now) c.args.k c.phase_length-phase.result c.args.lists.now depth)) c.count_of-count.result c.loop-depth.depth c.loop-depth-test.true
    (sym (quiet_at (value c.args.expr.now) c.args.k c.phase_length-phase.result (list_count c.args.expr.now) c.args.lists.now _ c.loop-depth.depth _ c.requires.posed.lists (c.deref.ensures.value ∙ c.in_ok-accesses.ensures) c.in_ok-is_quiet.ensures) ∙ c.if-branch.false)

pub returns-then-branch : goal.returns-then-branch
returns-then-branch c =
    sym (least_found (λ depth. is_quiet (value c.args.expr.now) c.args.k (length c.args.lists.now) c.args.lists.now (ca_run_to (value c.args.expr.now) c.args.k c.phase_length-phase.result c.args.lists.now depth)) c.count_of-count.result c.loop-depth.depth c.loop-depth-test.true
    (sym (quiet_at (value c.args.expr.now) c.args.k c.phase_length-phase.result (list_count c.args.expr.now) c.args.lists.now _ c.loop-depth.depth _ c.requires.posed.lists (c.deref.ensures.value ∙ c.in_ok-accesses.ensures) c.in_ok-is_quiet.ensures) ∙ c.if-branch.true))
    ∙ sym c.loop-depth.invariant
    ∙ ap (λ count. least_from (λ depth. is_quiet (value c.args.expr.now) c.args.k (length c.args.lists.now) c.args.lists.now (ca_run_to (value c.args.expr.now) c.args.k c.phase_length-phase.result c.args.lists.now depth)) (count - 1) 1) c.count_of-count.ensures
    ∙ ap (λ phase. ca_depth (value c.args.expr.now) c.args.k phase c.args.lists.now) c.phase_length-phase.ensures
