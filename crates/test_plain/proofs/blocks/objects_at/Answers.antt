use Rattle.std.proofs.Common.{ℕ, ◌∙◌, ◌++◌, ◌∷◌, [], cond, map, ap}
use Rattle.std.proofs.lemmas.List.{take_all}
use Rattle.ranked_list.specs.declared.row.Row.{Row}
use Rattle.topk_theory.specs.Transcript.{each_once}
use Rattle.topk_theory.specs.Threshold.{row_at}
use Rattle.topk_theory.proofs.AgreementNames.{has}
use Rattle.test_plain.proofs.Making.{each_once_more}
use Rattle.test_plain.proofs.blocks.objects_at.Goals as goal

pub loop-rows-preserved : goal.loop-rows-preserved
loop-rows-preserved c =
    each_once_more (λ rows. (row_at rows c.args.depth).object) c.args.lists.now c.loop-rows.rows-index c.rows-item.result c.loop-rows.objects.items c.add_object.new.objects.items c.loop-rows-test.true c.loop-rows.invariant
    (c.in_ok-add_object.ensures ∙ ap (λ (o : ℕ). cond (has o c.loop-rows.objects.items) c.loop-rows.objects.items (c.loop-rows.objects.items ++ o ∷ []))
    (ap (λ (z : Row). z.object) c.row_at.ensures ∙ ap (λ rows. (row_at rows c.args.depth).object) c.rows-item.is))

pub loop-rows-init : goal.loop-rows-init
loop-rows-init c = c.new-objects.ensures.items

pub returns : goal.returns
returns c =
    c.loop-rows.invariant
    ∙ ap (λ lists. each_once (map (λ rows. (row_at rows c.args.depth).object) lists)) (take_all c.loop-rows.rows-index c.args.lists.now c.loop-rows-test.false)
