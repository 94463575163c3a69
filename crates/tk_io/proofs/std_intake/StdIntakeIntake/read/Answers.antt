use Rattle.std.proofs.Common.{◌<◌, ◌^◌, ◌∙◌, sym, rules}
use Rattle.tk_io.proofs.Causes.{cause_counted, cause_none}
use Rattle.tk_io.proofs.std_intake.StdIntakeIntake.read.Goals as goal

pub returns-then-is_err-clause-bytes : goal.returns-then-is_err-clause-bytes
returns-then-is_err-clause-bytes g c = rw (← c.self.view_is) c.read_once-read.ensures.bytes

pub returns-else-is_err-clause-bytes : goal.returns-else-is_err-clause-bytes
returns-else-is_err-clause-bytes g c = rw (← c.self.view_is) c.read_once-read.ensures.bytes

pub returns-then-is_err-clause-cause : goal.returns-then-is_err-clause-cause
returns-then-is_err-clause-cause g c =
    let few : c.self.inside.faults < 2 ^ 64 = search rules in
    rw (← c.self.view_is) (cause_counted c.self.inside.faults _ c.read_once-read.result few (sym c.is_err.ensures.value ∙ c.if-is_err.true) c.saturating_add-self-inside.ensures)

pub returns-else-is_err-clause-cause : goal.returns-else-is_err-clause-cause
returns-else-is_err-clause-cause g c =
    rw (← c.self.view_is) (cause_none c.self.inside.faults c.read_once-read.result (sym c.is_err.ensures.value ∙ c.if-is_err.false))

pub returns-then-is_err-clause-bound : goal.returns-then-is_err-clause-bound
returns-then-is_err-clause-bound g c = c.read_once-read.ensures.bound

pub returns-else-is_err-clause-bound : goal.returns-else-is_err-clause-bound
returns-else-is_err-clause-bound g c = c.read_once-read.ensures.bound
