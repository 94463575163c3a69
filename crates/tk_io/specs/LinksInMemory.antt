-- What the links in memory are, and what gives them.
use Rattle.std.specs.Prelude.{◌≡◌, ℕ, ◌+◌, List, [], Option, None, Some, map}
use Rattle.tk_io.specs.Faults.{counted}
use Rattle.tk_io.specs.InMemory.{Incoming, Outgoing}
use Rattle.tk_io.specs.Links.{Closed}

-- a link: what it is to read, and what it is to write to
pub record TwoWay : Type 0 where
  pub incoming : Incoming
  pub outgoing : Outgoing

-- a link of which nothing was written and no call failed
pub record IsUnused (link : TwoWay) : Type 0 where
  pub held : link.outgoing.held ≡ []
  pub reads : link.incoming.faults ≡ 0
  pub writes : link.outgoing.faults ≡ 0

-- what is left of a link that is given back
abbrev pub closed_of : TwoWay → Closed
closed_of link = record {
  taken = Some link.outgoing.held;
  read_faults = link.incoming.faults;
  write_faults = link.outgoing.faults;
  pieces = None;
}

-- what gives links: those that are to come, how many are out, those that were given back, the numbers of the calls that fail,
-- the calls and the faults so far
pub record Giving : Type 0 where
  pub links : List TwoWay
  pub out : ℕ
  pub closed : List Closed
  pub fails : List ℕ
  pub calls : ℕ
  pub faults : ℕ

-- the bytes of the links that are to come
abbrev pub bytes_to_come : Giving → Option (List (List ℕ))
bytes_to_come g = Some (map (λ link. link.incoming.left) g.links)

-- after a call that failed
abbrev pub failed_call : Giving → Giving
failed_call g = record g { calls = counted g.calls; faults = counted g.faults }

-- after a call that gave no link and didn't fail
abbrev pub counted_call : Giving → Giving
counted_call g = record g { calls = counted g.calls }

-- after a call that gave the first link, with these behind it
abbrev pub gave_link : List TwoWay → Giving → Giving
gave_link rest g = record g { links = rest; out = g.out + 1; calls = counted g.calls }
