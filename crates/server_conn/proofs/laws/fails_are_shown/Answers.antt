use Rattle.server_conn.proofs.FailLaws.{failed_shown, garbled_shown}
use Rattle.server_conn.proofs.laws.fails_are_shown.Goals as goal

pub returns-clause-failed : goal.returns-clause-failed
returns-clause-failed c = failed_shown

pub returns-clause-garbled : goal.returns-clause-garbled
returns-clause-garbled c = garbled_shown
