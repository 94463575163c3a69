use Rattle.query_text.proofs.reading.factor_fault.Goals as goal

pub returns-in-Theta : goal.returns-in-Theta
returns-in-Theta c = (c.in-Theta.is, c.if-p-q.true)
