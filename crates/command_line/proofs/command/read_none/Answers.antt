use Rattle.std.proofs.Common.{Err, ap}
use Rattle.command_line.proofs.BareLaws.{read_taken, read_refused}
use Rattle.command_line.proofs.OptionLaws.{fault_in}
use Rattle.command_line.proofs.command.read_none.Goals as goal

pub returns-in-Ok-clause-read : goal.returns-in-Ok-clause-read
returns-in-Ok-clause-read c = read_taken c.args.words.now _ c.in-Ok.ensures.found

pub returns-in-Err-clause-refused : goal.returns-in-Err-clause-refused
returns-in-Err-clause-refused c = λ e. read_refused c.args.words.now (c.in-Err.ensures.refused (ap Err (ap fault_in e)))
