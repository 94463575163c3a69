use Rattle.std.proofs.Common.{◌≤◌, ◌<◌, ◌∙◌, length, ap, arith}
use Rattle.std.proofs.lemmas.List.{take_all}
use Rattle.ranked_list.specs.Table.{objects}
use Rattle.test_plain.proofs.Making.{objects_more}
use Rattle.test_plain.proofs.table.objects.Goals as goal

pub loop-place-init : goal.loop-place-init
loop-place-init c = c.new-found.ensures.items

pub loop-place-preserved : goal.loop-place-preserved
loop-place-preserved c =
    let within : c.loop-place.place < length c.args.list.now = omega (arith, c.loop-place-test.true, c.len-place-end.ensures) in
    objects_more c.args.list.now c.loop-place.place c.row_in.result c.loop-place.found.items c.push.new.self.items within c.row_in.ensures c.in_ok-push.ensures.items c.loop-place.invariant

pub returns : goal.returns
returns c =
    let whole : length c.args.list.now ≤ c.loop-place.place = omega (arith, c.loop-place-test.false, c.len-place-end.ensures) in
    c.loop-place.invariant ∙ ap objects (take_all c.loop-place.place c.args.list.now whole)
