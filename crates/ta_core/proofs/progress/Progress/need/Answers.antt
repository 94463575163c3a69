use Rattle.std.proofs.Common.{rules, arith}
use Rattle.ta_core.specs.Shown.{reading_of}
use Rattle.ta_core.proofs.CallSteps.{grade_next}
use Rattle.ta_core.proofs.progress.Progress.need.Goals as goal

pub returns : goal.returns
returns c =
    grade_next c.args.lists (reading_of c.args.self.now) c.len-2.result c.unwrap_or.result c.if-self.false (let t = c.if-len-lists.false in omega (arith, c.len.ensures.value)) c.len-2.ensures.value (search rules)
