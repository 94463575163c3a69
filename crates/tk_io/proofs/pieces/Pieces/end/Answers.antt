use Rattle.tk_io.proofs.Putting.{ends_failed, ends_sent}
use Rattle.tk_io.proofs.pieces.Pieces.end.Goals as goal

pub returns-then-self-clause-ends : goal.returns-then-self-clause-ends
returns-then-self-clause-ends g c = ends_failed (Unit {0}) _ _ c.self.inside.waiting.items c.self.inside.failed _ _ c.self.view_is c.if-self.true

pub returns-clause-ends : goal.returns-clause-ends
returns-clause-ends g c =
    ends_sent _ _ _ _ c.self.inside.waiting.items c.self.inside.failed _ _ c.self.view_is c.if-self.false c.send.ensures.whole c.send.ensures.front c.send.ensures.cause
