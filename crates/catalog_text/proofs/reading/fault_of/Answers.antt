use Rattle.std.proofs.Common.{◌<◌, length, arith, sym}
use Rattle.catalog_text.proofs.NameLaws.{repeats, is_new}
use Rattle.catalog_text.proofs.reading.fault_of.Goals as goal

pub returns-then-is_some : goal.returns-then-is_some
returns-then-is_some c =
    let room : length c.args.catalog.now < 64 = omega (arith, c.len-2.ensures) in
    let before = c.from-line.ensures in
    let listed = c.len.ensures in
    repeats c.args.catalog.now c.args.source.now c.in-Some.parts c.find.result _ c.in-Some.is room c.find.ensures (sym c.if-is_some.ensures) (omega arith)

pub returns : goal.returns
returns c =
    let room : length c.args.catalog.now < 64 = omega (arith, c.len-2.ensures) in
    is_new c.args.catalog.now c.args.source.now c.in-Some.parts c.find.result c.in-Some.is room c.find.ensures (sym c.if-is_some.ensures)
