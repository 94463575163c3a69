use Rattle.std.proofs.Common.{ap, ◌∙◌}
use Rattle.turn_lock.specs.Known.{holding}
use Rattle.turn_lock.proofs.lock.TurnLock.take.Goals as goal

pub returns-clause-pass : goal.returns-clause-pass
returns-clause-pass g c = λ i. (
  (c.enter.ensures.same.0 ∙ (ap (λ p. p.0) c.pass.view_is ∙ c.requires.own)) i,
  (c.enter.ensures.turn.1 ∙ ap (λ p. holding (g.V.Logged.facts c.enter.result) p.1) c.pass.view_is) i,
)
