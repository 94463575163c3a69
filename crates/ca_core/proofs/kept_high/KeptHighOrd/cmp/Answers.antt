use Rattle.std.proofs.Common.{◌∙◌}
use Rattle.std.specs.Ordering.{nat_cmp}
use Rattle.machine_base.proofs.Comparing.{first_decides, second_decides}
use Rattle.ca_core.proofs.kept_high.KeptHighOrd.cmp.Goals as goal

pub returns-then-self-other : goal.returns-then-self-other
returns-then-self-other c =
    c.cmp.ensures ∙ first_decides c.args.self.now.high c.args.other.now.high (nat_cmp c.args.other.now.object c.args.self.now.object) c.if-self-other.true

pub returns : goal.returns
returns c =
    c.cmp-2.ensures ∙ second_decides c.args.self.now.high c.args.other.now.high (nat_cmp c.args.other.now.object c.args.self.now.object) c.if-self-other.false
