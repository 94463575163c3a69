-- The program's exit status.
use Rattle.std.specs.Prelude.{ℕ}
use Rattle.command_line.specs.declared.status.Status.{Status}
use Rattle.command_line.specs.declared.status.Status.TheVariants.{Done, Partial, BadWords, BadCatalog, BadInput, LongInput, Memory}
use Rattle.command_line.specs.declared.status.Status.TheVariants.{ReadFault, WriteFault, OpenFault, PortFault}

-- the exit status of each end
abbrev pub exit_code : Status → ℕ
exit_code Done = 0
exit_code Partial = 1
exit_code BadWords = 2
exit_code BadCatalog = 3
exit_code ReadFault = 4
exit_code WriteFault = 5
exit_code OpenFault = 6
exit_code PortFault = 7
exit_code Memory = 8
exit_code LongInput = 9
exit_code BadInput = 10
