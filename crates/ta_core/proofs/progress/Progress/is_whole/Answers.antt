use Rattle.std.proofs.Common.{arith}
use Rattle.ta_core.specs.Shown.{reading_of}
use Rattle.ta_core.proofs.CallSteps.{whole_from_none}
use Rattle.ta_core.proofs.progress.Progress.is_whole.Goals as goal

pub returns-then-len-lists : goal.returns-then-len-lists
returns-then-len-lists c =
    whole_from_none c.args.lists (reading_of c.args.self.now) c.is_empty.result (let t = c.if-len-lists.true in omega (arith, c.len.ensures.value)) c.is_empty.ensures
