-- What a call does with a port.
use Rattle.std.specs.Prelude.{◌≡◌, ℕ, List, [], ◌∷◌, Option}
use Rattle.tk_io.specs.Calls.{PortCall, with_more}
use Rattle.tk_io.specs.Links.{Closed}
use Rattle.source_node.specs.ServingLinks.{PortAt, port_as}

-- a port before a call and after it
pub record Ports : Type 0 where
  pub before : PortAt
  pub after : PortAt

-- the same by what it tells and counts
abbrev pub ports_of : {P : Type 0} → (P → Option (List (List ℕ))) → (P → Option (List Closed)) → (P → ℕ) → (P → Option (List PortCall)) → P × P → Ports
ports_of links closed faults calls ports = record { before = port_as links closed faults calls ports.0; after = port_as links closed faults calls ports.1 }

-- the port was left as it was
abbrev pub KeepsPort : Ports → Type 0
KeepsPort p = p.after ≡ p.before

-- a port once it was to listen at this number
abbrev pub listening : ℕ → PortAt → PortAt
listening number port = record port { calls = with_more (PortCall.Listened number ∷ []) port.calls }
