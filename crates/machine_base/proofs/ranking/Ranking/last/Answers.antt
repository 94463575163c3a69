use Rattle.std.proofs.Common.{arith}
use Rattle.machine_base.proofs.Halving.{count_none}
use Rattle.machine_base.proofs.ranking.Ranking.last.Goals as goal

pub returns-in_default : goal.returns-in_default
returns-in_default c = let none = count_none c.args.self.now.top c.in_default.ensures.none in omega arith
