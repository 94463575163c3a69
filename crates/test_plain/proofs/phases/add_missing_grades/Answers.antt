use Rattle.std.proofs.Common.{◌≡◌, ◌++◌, ◌∙◌, length, sym, ap, arith, append-nil}
use Rattle.test_plain.proofs.Asking.{missing_so_far, missing_next, at_list}
use Rattle.test_plain.proofs.phases.add_missing_grades.Goals as goal

pub loop-list-preserved : goal.loop-list-preserved
loop-list-preserved c =
    missing_next c.args.lists.now c.args.accesses.now c.args.missing.now.items c.loop-list.missing.items c.add_unknown.new.missing.items c.args.object c.loop-list.list c.index-lists-list.result
    (at_list c.args.lists.now c.loop-list.list c.index-lists-list.result _ c.loop-list-test.true c.index-lists-list.is) c.in_ok-add_unknown.ensures c.loop-list.invariant

pub loop-list-init : goal.loop-list-init
loop-list-init c = sym (append-nil _)

pub returns : goal.returns
returns c =
    let all : c.loop-list.list ≡ length c.args.lists.now = omega (arith, c.loop-list.auto.list-end, c.loop-list-test.false) in
    c.loop-list.invariant ∙ ap (λ n. c.args.missing.now.items ++ missing_so_far c.args.lists.now c.args.accesses.now c.args.object n) all
