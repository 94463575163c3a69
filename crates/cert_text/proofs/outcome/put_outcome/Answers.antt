use Rattle.std.proofs.Common.{append-nil}
use Rattle.cert_text.specs.Outcome.{outcome_text}
use Rattle.tk_io.proofs.Putting.{puts_as}
use Rattle.cert_text.proofs.outcome.put_outcome.Goals as goal

pub returns-in-Some : goal.returns-in-Some
unfolding outcome_text
returns-in-Some g c = rw (c.in-Some.is, c.in-Answered.is) c.put_certificate.ensures

pub returns-in-Refused : goal.returns-in-Refused
unfolding outcome_text
returns-in-Refused g c = rw c.in-Refused.is (puts_as _ _ _ _ (append-nil _) c.put_refusal.ensures)
