use Rattle.std.proofs.Common.{◌∙◌, ap, sym, arith}
use Rattle.ranked_list.specs.declared.row.Row.{Row}
use Rattle.test_plain.proofs.Reading.{place_found, place_absent}
use Rattle.test_plain.proofs.table.place_in.Goals as goal

pub returns-then-row-object : goal.returns-then-row-object
returns-then-row-object c =
    sym (place_found c.args.list.now c.loop-place.place c.args.object (omega arith) (ap (λ (z : Row). z.object) (sym c.row_in-row.ensures) ∙ c.if-row-object.true) c.loop-place.invariant)

pub returns : goal.returns
returns c = c.len.ensures ∙ sym (place_absent c.args.list.now c.args.object (λ k l. c.loop-place.invariant k (omega arith)))
