-- How a call ends that reads its input and replies to it, or that writes a text.
use Rattle.std.specs.Prelude.{◌≡◌, ℕ, List, ◌⊎◌}
use Rattle.std.specs.Io.KnownBytes.{Appends}
use Rattle.tk_io.specs.Faults.{Rose}
use Rattle.tk_io.specs.Whole.{TookFront}
use Rattle.command_line.specs.Calls.{Call, Output, LeftAlone, ReadSome, ReadWhole, ReadFailed, ReadLong, WroteNothing, WroteWhole, WroteFront}
use Rattle.command_line.specs.declared.status.Status.{Status}
use Rattle.command_line.specs.declared.status.Status.TheVariants.{Done, Partial, BadInput, LongInput, Memory}
use Rattle.command_line.specs.declared.status.Status.TheVariants.{ReadFault, WriteFault}

-- what a command replies to the bytes of its input: the status and the text
abbrev pub Replying : Type 1
Replying = List ℕ → Status → List ℕ → Type 0

-- the input was read to its end, and its reply with this status was written
abbrev pub Replied : Replying → Call → Status → Type 0
Replied replies c status = (bytes : List ℕ) × (text : List ℕ) × ReadWhole c bytes × replies bytes status text × WroteWhole c text

-- how a command ends that reads its input and replies to it
abbrev pub EndsReading : Replying → Call → Status → Type 0
EndsReading replies c Done = Replied replies c Done
EndsReading replies c Partial = Replied replies c Partial
EndsReading replies c BadInput = Replied replies c BadInput
EndsReading replies c WriteFault = (bytes : List ℕ) × (status : Status) × (text : List ℕ) × ReadWhole c bytes × replies bytes status text × WroteFront c text
EndsReading replies c ReadFault = ReadFailed c × WroteNothing c
EndsReading replies c LongInput = ReadLong c × WroteNothing c
EndsReading replies c Memory = ReadSome c × WroteNothing c
EndsReading _ _ _ = ⊥

-- how a command ends that writes a text and leaves its input as it was
abbrev pub EndsWriting : List ℕ → Call → Status → Type 0
EndsWriting text c Done = LeftAlone c × WroteWhole c text
EndsWriting text c WriteFault = LeftAlone c × WroteFront c text
EndsWriting text c Memory = LeftAlone c × WroteNothing c
EndsWriting _ _ _ = ⊥

-- a text was written whole with its status, or a front of it with a write fault
abbrev pub Says : Output → Output → List ℕ → Status → Status → Type 0
Says before now text status result =
    ((result ≡ status) × Appends before.held now.held text × (now.faults ≡ before.faults))
    ⊎ ((result ≡ WriteFault) × TookFront before.held now.held text × Rose before.faults now.faults)
