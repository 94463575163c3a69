-- The calls that were made of dials and of ports, in their order.
use Rattle.std.specs.Prelude.{ℕ, List, ◌++◌, Option, Some, None, Result, Ok, Err}

-- a list with these behind it, where it is told
abbrev pub with_more : {A : Type 0} → List A → Option (List A) → Option (List A)
with_more more None = None
with_more more (Some before) = Some (before ++ more)

-- a port of a host
pub record HostPort : Type 0 where
  pub host : List ℕ
  pub port : ℕ

-- a call of a port, with what came of it as far as the order of its links goes: it was to listen at the port of this number; it was asked for the next link and
-- gave one, had ended, or failed; or it took a link back
pub data PortCall : Type 0 where
  Listened : ℕ → PortCall
  Gave : PortCall
  Ended : PortCall
  Failed : PortCall
  TookBack : PortCall

-- the call for the next link that answered so
abbrev pub accepted : {L E : Type 0} → Result (Option L) E → PortCall
accepted (Ok (Some link)) = Gave
accepted (Ok None) = Ended
accepted (Err failed) = Failed
