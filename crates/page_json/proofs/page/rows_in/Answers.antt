use Rattle.std.proofs.Common.{◌+◌, sym, arith, subst}
use Rattle.page_json.specs.Going.{AreRead}
use Rattle.page_json.proofs.Loops.{read_start, read_more, read_stops, read_end}
use Rattle.page_json.proofs.page.rows_in.Goals as goal

pub loop-value-init : goal.loop-value-init
loop-value-init c = let e = c.in_ok-rows.ensures in (e.len, e.capacity, read_start c.in_ok-rows.rows.items c.args.list.now e.items)

pub returns-in_default-clause-refused : goal.returns-in_default-clause-refused
returns-in_default-clause-refused c refused =
    read_stops c.loop-value.rows.items c.args.list.now c.loop-value.value-index c.value-item.result c.loop-value-test.true c.value-item.is c.in_default.ensures c.loop-value.invariant.2

pub push_reserved-requires : goal.push_reserved-requires
push_reserved-requires c = let i = c.loop-value.invariant in omega (arith, i.0, i.1, c.loop-value-test.true)

pub loop-value-preserved : goal.loop-value-preserved
loop-value-preserved c =
    let i = c.loop-value.invariant in
    let e = c.push_reserved.ensures in (
      omega (arith, i.0, e.len),
      omega (arith, i.1, e.capacity),
      subst (λ rows. AreRead rows c.args.list.now (c.loop-value.value-index + 1)) (sym e.items)
          (read_more c.loop-value.rows.items c.args.list.now c.loop-value.value-index c.value-item.result c.in-Some.row c.loop-value-test.true c.value-item.is c.in-Some.ensures i.2),
    )

pub returns-clause-read : goal.returns-clause-read
returns-clause-read c = read_end c.loop-value.rows.items c.args.list.now c.loop-value.value-index c.loop-value-test.false c.loop-value.invariant.2
