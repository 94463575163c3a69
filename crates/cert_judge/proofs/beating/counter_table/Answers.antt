use Rattle.std.proofs.Common.{◌≡◌, ◌∙◌, ◌++◌, ◌∷◌, [], ℕ, List, ap, ap₂, sym, subst, map, arith}
use Rattle.ranked_list.specs.declared.row.Row.{Row}
use Rattle.std.proofs.lemmas.List.FromFn.{map-range_with_len_more}
use Rattle.topk_theory.specs.Fixes.{IsObjectSet}
use Rattle.topk_theory.specs.Transcript.{sorted_rows, list_numbers}
use Rattle.topk_theory.specs.Adversary.{chosen, against, filled}
use Rattle.cert_judge.proofs.Countering.{set_is, counter_is}
use Rattle.cert_judge.proofs.beating.counter_table.Goals as goal

pub completed_list-requires-clause-objects : goal.completed_list-requires-clause-objects
completed_list-requires-clause-objects c =
    let log = c.args.transcript.now in
    subst (IsObjectSet log.count) (sym c.deref.ensures.value)
    (set_is log c.in_ok-objects.objects.items c.requires.tame c.lists-list-end.ensures.limits.some_lists c.lists-list-end.ensures.agrees c.in_ok-objects.ensures)

pub loop-list-preserved : goal.loop-list-preserved
loop-list-preserved c =
    let A = c.args.transcript.now.accesses in
    let i = c.loop-list.list in
    let f : ℕ → List Row = λ list. filled (chosen (against c.args.inside A) A list) c.in_ok-objects.objects.items (sorted_rows list A) in
    c.in_ok-push.ensures.items ∙ ap₂ (λ xs x. xs ++ x ∷ []) c.loop-list.invariant
    (c.in_ok-rows.ensures ∙ ap (λ os. filled (chosen (against c.args.inside A) A i) os (sorted_rows i A)) c.deref.ensures.value)
    ∙ sym (map-range_with_len_more f 0 i i (omega arith))

pub returns : goal.returns
returns c =
    let log = c.args.transcript.now in
    let end : c.loop-list.list ≡ log.lists = omega (arith, c.lists-list-end.ensures.lists, c.loop-list.auto.list-end, c.loop-list-test.false) in
    counter_is log c.args.inside c.in_ok-objects.objects.items c.loop-list.lists.items c.requires.tame c.requires.seen c.lists-list-end.ensures.limits.some_lists c.lists-list-end.ensures.agrees c.in_ok-objects.ensures
    (subst (λ m. c.loop-list.lists.items ≡ map (λ list. filled (chosen (against c.args.inside log.accesses) log.accesses list) c.in_ok-objects.objects.items (sorted_rows list log.accesses)) (list_numbers m)) end c.loop-list.invariant)
