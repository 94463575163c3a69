use Rattle.std.proofs.Common.{ap, ◌∙◌}
use Rattle.turn_lock.specs.Known.{without, split_off}
use Rattle.turn_lock.proofs.lock.TurnLock.split.Goals as goal

pub returns-clause-kept : goal.returns-clause-kept
returns-clause-kept g c = λ i. (
  (c.cut-seat.ensures.same.0 ∙ (ap (λ p. p.0) c.pass.view_is ∙ c.requires.own)) i,
  (c.cut-seat.ensures.kept.1 ∙ ap (λ p. without c.args.parts p.1) c.pass.view_is) i,
)

pub returns-clause-given : goal.returns-clause-given
returns-clause-given g c = λ i. (
  (c.cut-seat.ensures.given.0 ∙ (ap (λ p. p.0) c.pass.view_is ∙ c.requires.own)) i,
  (c.cut-seat.ensures.given.2 ∙ ap (λ p. split_off c.args.parts p.1) c.pass.view_is) i,
)
