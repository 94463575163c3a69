use Rattle.std.proofs.Common.{sym, subst, ◌∙◌, arith}
use Rattle.bulk_run.specs.Endings.{AllEndInOne}
use Rattle.bulk_run.proofs.Bounds.{all_small}
use Rattle.bulk_run.proofs.Summing.{endings_long, sums_are}
use Rattle.bulk_run.proofs.run.run_bulk.Goals as goal

pub sums_of-requires-clause-few : goal.sums_of-requires-clause-few
sums_of-requires-clause-few g c =
    let all = subst (AllEndInOne c.args.input) (sym c.deref.ensures.value) c.in_ok-endings.ensures in
    let many = endings_long c.args.input c.deref.result.now all in
    omega (arith, many, c.requires.input.few_queries)

pub sums_of-requires-clause-small : goal.sums_of-requires-clause-small
sums_of-requires-clause-small g c =
    all_small c.args.input c.deref.result.now c.requires.input (subst (AllEndInOne c.args.input) (sym c.deref.ensures.value) c.in_ok-endings.ensures)

pub returns : goal.returns
returns g c =
    c.sums_of.ensures ∙ sums_are c.args.input c.deref.result.now (subst (AllEndInOne c.args.input) (sym c.deref.ensures.value) c.in_ok-endings.ensures)
