use Rattle.std.proofs.Common.{◌≡◌, ℕ, List, set, get_or, replicate, ap, ◌∙◌, arith}
use Rattle.topk_base.specs.declared.TheConstants.{MAX_LISTS}
use Rattle.ranked_list.specs.Table.{top_grade}
use Rattle.monotone_fn.specs.Value.{value}
use Rattle.ca_core.proofs.Capping.{bottom_read, bottoms_length, caps_are_grades, cap_written}
use Rattle.ca_core.proofs.tying.cap.Goals as goal

pub bounds-bottoms-list : goal.bounds-bottoms-list
bounds-bottoms-list c =
    let long = bottoms_length c.args.transcript.now.lists c.args.transcript.now.accesses c.bottoms.result.now c.bottoms.ensures.bottoms in
    omega (arith, long, c.requires.list)

pub eval-requires-clause-capped : goal.eval-requires-clause-capped
eval-requires-clause-capped c =
    let long = bottoms_length c.args.transcript.now.lists c.args.transcript.now.accesses c.bottoms.result.now c.bottoms.ensures.bottoms in
    caps_are_grades c.lists-lists.result MAX_LISTS c.args.list (get_or c.bottoms.result.now c.args.list 0) (omega (arith, c.lists-lists.ensures.lists, c.lists-lists.ensures.limits.few_lists))
    (omega (arith, c.requires.list, c.lists-lists.ensures.lists)) (c.bottoms.ensures.capped c.args.list 0 (omega (arith, long, c.requires.list)))

pub returns : goal.returns
returns c =
    let m : ℕ = c.args.transcript.now.lists in
    let lists : c.lists-lists.result ≡ m = c.lists-lists.ensures.lists in
    let bottoms : List ℕ = c.bottoms.result.now in
    c.eval.ensures.value ∙ ap (value c.args.expr.now)
    (cap_written c.lists-lists.result MAX_LISTS c.args.list (get_or bottoms c.args.list 0) (omega (arith, lists, c.lists-lists.ensures.limits.few_lists)) (omega (arith, c.requires.list, lists))
    ∙ ap (λ n. set (replicate n top_grade) c.args.list (get_or bottoms c.args.list 0)) lists
    ∙ ap (λ b. set (replicate m top_grade) c.args.list b) (bottom_read m c.args.list c.args.transcript.now.accesses bottoms c.requires.list c.bottoms.ensures.bottoms))
