use Rattle.std.proofs.Common.{◌++◌, ◌∙◌, ap, sym, length, take, length-append, length-take, append-nil, arith}
use Rattle.std.proofs.lemmas.List.{take_all}
use Rattle.cert_judge.proofs.Completing.{added_row}
use Rattle.cert_judge.proofs.beating.add_rows.Goals as goal

pub loop-row-init : goal.loop-row-init
loop-row-init c = sym (append-nil c.args.rows.now)

pub push-requires : goal.push-requires
push-requires c =
    let size = ap length c.loop-row.invariant ∙ length-append c.args.rows.now (take c.loop-row.row-index c.args.more.now) in
    omega (arith, size, length-take c.loop-row.row-index c.args.more.now)

pub loop-row-preserved : goal.loop-row-preserved
loop-row-preserved c = added_row c.args.rows.now c.args.more.now c.loop-row.rows c.push.new.self c.loop-row.row-index c.loop-row-test.true c.loop-row.invariant c.in_ok-push.ensures.ok

pub returns : goal.returns
returns c = c.loop-row.invariant ∙ ap (λ xs. c.args.rows.now ++ xs) (take_all c.loop-row.row-index c.args.more.now (omega arith))
