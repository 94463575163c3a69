use Rattle.std.proofs.Common.{◌∙◌, arith}
use Rattle.ta_core.proofs.CallSteps.{fills_more, fills_none, fills_all}
use Rattle.ta_core.proofs.progress.fill_grades.Goals as goal

pub loop-grades-preserved : goal.loop-grades-preserved
loop-grades-preserved c =
    fills_more c.args.objects.now c.args.bottoms.now c.loop-grades.grades.items c.push.new.self.items c.args.object c.len-in-loop-grades.result c.len-in-loop-grades-2.result c.len-in-loop-grades.ensures.value c.len-in-loop-grades-2.ensures.value c.requires.same
    (let t = c.loop-grades-test.true in omega (arith, c.len.ensures.value)) c.if-objects-len.true c.push.ensures.items
    ∙ c.loop-grades.invariant

pub returns-else-objects-len : goal.returns-else-objects-len
returns-else-objects-len c =
    fills_none c.args.objects.now c.args.bottoms.now c.loop-grades.grades.items c.args.object c.len-in-loop-grades.result c.len-in-loop-grades.ensures.value
    (let t = c.loop-grades-test.true in omega (arith, c.len.ensures.value)) c.if-objects-len.false
    ∙ c.loop-grades.invariant

pub returns-after-loop-grades : goal.returns-after-loop-grades
returns-after-loop-grades c =
    fills_all c.args.objects.now c.args.bottoms.now c.loop-grades.grades.items c.args.object (let t = c.loop-grades-test.false in omega (arith, c.len.ensures.value))
    ∙ c.loop-grades.invariant
