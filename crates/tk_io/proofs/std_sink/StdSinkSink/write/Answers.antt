use Rattle.std.proofs.Common.{◌<◌, ◌^◌, ◌∙◌, sym, rules}
use Rattle.tk_io.proofs.Causes.{cause_counted, cause_none}
use Rattle.tk_io.proofs.std_sink.StdSinkSink.write.Goals as goal

pub returns-then-is_err-clause-cause : goal.returns-then-is_err-clause-cause
returns-then-is_err-clause-cause g c =
    let few : c.self.inside.faults < 2 ^ 64 = search rules in
    rw (← c.self.view_is) (cause_counted c.self.inside.faults _ c.write_once-written.result few (sym c.is_err.ensures.value ∙ c.if-is_err.true) c.saturating_add-self-inside.ensures)

pub returns-else-is_err-clause-cause : goal.returns-else-is_err-clause-cause
returns-else-is_err-clause-cause g c =
    rw (← c.self.view_is) (cause_none c.self.inside.faults c.write_once-written.result (sym c.is_err.ensures.value ∙ c.if-is_err.false))

pub returns-then-is_err-clause-taken : goal.returns-then-is_err-clause-taken
returns-then-is_err-clause-taken g c = rw (← c.self.view_is) c.write_once-written.ensures.taken

pub returns-else-is_err-clause-taken : goal.returns-else-is_err-clause-taken
returns-else-is_err-clause-taken g c = rw (← c.self.view_is) c.write_once-written.ensures.taken
