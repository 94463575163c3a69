use Rattle.std.proofs.Common.{◌∙◌, sym, ap, map}
use Rattle.monotone_fn.specs.Shape.{list_count}
use Rattle.monotone_fn.specs.Value.{value}
use Rattle.topk_theory.specs.Order.{first_k}
use Rattle.topk_theory.specs.Threshold.{scored, item_objects}
use Rattle.topk_theory.specs.NoRandom.{first_seen}
use Rattle.topk_theory.specs.Combined.{phase_length, ca_depth, ca_blocks}
use Rattle.test_plain.proofs.Capped.{run_capped, answer_apart}
use Rattle.test_plain.proofs.combined.ca_answer.Goals as goal

pub first_seen-requires : goal.first_seen-requires
first_seen-requires c =
    run_capped (value c.args.expr.now) c.args.k (phase_length c.args.costs.sorted c.args.costs.random) c.args.lists.now c.args.expr.now (ca_depth (value c.args.expr.now) c.args.k (phase_length c.args.costs.sorted c.args.costs.random) c.args.lists.now) _ c.requires.posed (c.deref.ensures.value ∙ c.in_ok-accesses.ensures)

pub first_k-requires : goal.first_k-requires
first_k-requires c =
    answer_apart (value c.args.expr.now) c.args.k (list_count c.args.expr.now) c.args.lists.now c.deref.result.now _
    (c.in_ok-items.ensures ∙ ap (map (scored (value c.args.expr.now) c.args.lists.now)) (c.deref-3.ensures.value ∙ c.in_ok-objects.ensures ∙ ap item_objects (c.deref-2.ensures.value ∙ c.in_ok-first.ensures)))

pub returns : goal.returns
returns c =
    c.first_k.ensures ∙ ap (first_k c.args.k) (c.in_ok-items.ensures
    ∙ ap (map (scored (value c.args.expr.now) c.args.lists.now)) (c.deref-3.ensures.value ∙ c.in_ok-objects.ensures ∙ ap item_objects (c.deref-2.ensures.value ∙ c.in_ok-first.ensures
    ∙ ap (first_seen (value c.args.expr.now) c.args.k (list_count c.args.expr.now)) (c.deref.ensures.value ∙ c.in_ok-accesses.ensures)
    ∙ ap (λ m. first_seen (value c.args.expr.now) c.args.k m (ca_blocks (value c.args.expr.now) c.args.k (phase_length c.args.costs.sorted c.args.costs.random) c.args.lists.now)) (sym c.requires.posed.lists))))
