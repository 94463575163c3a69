use Rattle.std.proofs.Common.{◌<◌, subst}
use Rattle.access_log.proofs.objects.Objects.grow.Goals as goal

pub returns-then-len-self-clause-ok : goal.returns-then-len-self-clause-ok
returns-then-len-self-clause-ok c = subst (λ n. n < c.args.self.now.room) c.len-len.ensures.len c.if-len-self.true
