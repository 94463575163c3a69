-- What is told of the bytes of a link, and when a call may say that the link failed.
use Rattle.std.specs.Prelude.{◌≡◌, ℕ, List, Option, Result, Err, ⊤}
use Rattle.std.specs.Io.KnownBytes.{prepend_known, Keeps}
use Rattle.tk_io.specs.Faults.{Rose}
use Rattle.wire.specs.declared.fault.WireFault.{WireFault}
use Rattle.wire.specs.declared.fault.WireFault.TheVariants.{LinkFault, BadMessage, TooLong, Memory}

-- the bytes that came and weren't taken, and then those that are still to come, where they are told
abbrev pub told : List ℕ → Option (List ℕ) → Option (List ℕ)
told came left = prepend_known came left

-- what is told stays as it was
abbrev pub SameTold : List ℕ → Option (List ℕ) → List ℕ → Option (List ℕ) → Type 0
SameTold came left came_now left_now = Keeps (told came left) (told came_now left_now)

-- a count of faults rose exactly where the link failed
abbrev pub Counts : {T : Type 0} → ℕ → ℕ → Result T WireFault → Type 0
Counts before now (Err LinkFault) = Rose before now
Counts before now _ = now ≡ before

-- the fault is the link's, or lack of memory
abbrev pub IsOutside : WireFault → Type 0
IsOutside LinkFault = ⊤
IsOutside BadMessage = ⊥
IsOutside (TooLong limit) = ⊥
IsOutside Memory = ⊤
