-- What is replied on a connection, and how it ends.
use Rattle.std.specs.Prelude.{◌≡◌, ℕ, Bool, false, List, codes, bytes_eq, Option, Result, Ok, Err}
use Rattle.std.specs.Io.KnownBytes.{Appends}
use Rattle.tk_io.specs.Faults.{Rose}
use Rattle.tk_io.specs.Whole.{TookFront}
use Rattle.wire.specs.declared.fault.WireFault.{WireFault}
use Rattle.wire.specs.declared.replying.ConnEnd.{ConnEnd}
use Rattle.wire.specs.declared.replying.ConnEnd.TheVariants.{Replied, LinkFault}
use Rattle.wire.specs.declared.request.Head.{Head}

-- whether the method is HEAD; where no head was read it isn't
abbrev pub asks_head : Result Head WireFault → Bool
asks_head (Ok head) = bytes_eq head.method (codes "HEAD")
asks_head (Err why) = false

-- a reply is written whole, with its status, or a front of it and the link failed
abbrev pub Sends : Option (List ℕ) → Option (List ℕ) → ℕ → ℕ → ℕ → List ℕ → ConnEnd → Type 0
Sends held held_now faults faults_now status text (Replied said) = (said ≡ status) × Appends held held_now text × (faults_now ≡ faults)
Sends held held_now faults faults_now status text LinkFault = TookFront held held_now text × Rose faults faults_now
