-- What is told of what a command wrote into memory.
use Rattle.std.specs.Prelude.{ℕ, List, []}
use Rattle.command_line.specs.declared.status.Status.{Status}
use Rattle.command_line.specs.declared.status.Status.TheVariants.{WriteFault, Memory}

-- a text that is kept: its bytes, and how many writes failed
pub record Kept : Type 0 where
  pub bytes : List ℕ
  pub faults : ℕ

-- a text that couldn't be kept is lack of memory
abbrev pub told_status : Status → Status
told_status WriteFault = Memory
told_status status = status

-- and nothing is told of it
abbrev pub told_text : Status → List ℕ → List ℕ
told_text WriteFault text = []
told_text status text = text
