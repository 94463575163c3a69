-- What a top call writes is proved.
use Rattle.std.specs.Prelude.{ℕ, ⊤, List, Option, Some}
use Rattle.query_core.specs.Claim.{IsProvedWhole}
use Rattle.command_line.specs.Calls.{Call, WroteWhole}
use Rattle.command_line.specs.Commands.{command_of}
use Rattle.command_line.specs.declared.command.Command.{Command}
use Rattle.command_line.specs.declared.command.Command.TheVariants.{One, Run}
use Rattle.command_line.specs.declared.status.Status.{Status}
use Rattle.command_line.specs.declared.status.Status.TheVariants.{Done, Partial}

-- what was written is proved, line by line
abbrev pub WroteProved : Call → Type 0
WroteProved c = (said : List ℕ) × WroteWhole c said × IsProvedWhole said

-- by its status a command answered, or refused, query lines: all that it wrote is proved
abbrev pub ProvesBy : Call → Status → Type 0
ProvesBy c Done = WroteProved c
ProvesBy c Partial = WroteProved c
ProvesBy c _ = ⊤

-- what a command writes is proved: that of `one`, and that of `run`
abbrev pub CommandProves : Option Command → Call → Status → Type 0
CommandProves (Some One) c status = ProvesBy c status
CommandProves (Some (Run options)) c status = ProvesBy c status
CommandProves _ c status = ⊤

-- what a call writes is proved
abbrev pub Proves : Call → Status → Type 0
Proves c status = CommandProves (command_of c.words) c status
