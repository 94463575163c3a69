-- How an address is taken to pieces, before they are tested.
use Rattle.std.specs.Prelude.{◌≡◌, ℕ, List, Option, Some, None, if◌then◌else◌, length, drop, codes, nat_le}
use Rattle.std.specs.Option.{option_map, option_and_then}
use Rattle.topk_base.specs.Cuts.{cut_at, rest_after}
use Rattle.topk_base.specs.Numbers.{number_up_to}
use Rattle.catalog_text.specs.declared.place.Pieces.{Pieces}
use Rattle.catalog_text.specs.declared.place.Address.{Address}
use Rattle.catalog_text.specs.Places.{IsHost, IsPath}

-- the port that a text spells, from 1 to 65535
abbrev pub port_in : List ℕ → Option ℕ
port_in text = option_and_then (λ number. if nat_le 1 number then Some number else None) (number_up_to 65535 text)

-- the host and the port, by the first `:`; without one the port is 80
abbrev pub host_and_port : List ℕ → Option (List ℕ × List ℕ) → Option (List ℕ × ℕ)
host_and_port authority None = Some (authority, 80)
host_and_port authority (Some cut) = option_map (λ port. (cut.0, port)) (port_in cut.1)

-- what stands behind `http://` up to the first `/`, and from there
abbrev pub authority_and_path : List ℕ → Option (List ℕ × List ℕ)
authority_and_path rest = option_map (λ cut. (cut.0, drop (length cut.0) rest)) (cut_at 47 rest)

-- the host, the port and the path
abbrev pub with_path : List ℕ × List ℕ → Option (List ℕ × ℕ × List ℕ)
with_path parts = option_map (λ ported. (ported.0, ported.1, parts.1)) (host_and_port parts.0 (cut_at 58 parts.0))

-- the pieces of an address
abbrev pub pieces_in : List ℕ → Option (List ℕ × ℕ × List ℕ)
pieces_in text = option_and_then with_path (option_and_then authority_and_path (rest_after (codes "http://") text))

-- borrowed pieces
abbrev pub pieces_now : Pieces → List ℕ × ℕ × List ℕ
pieces_now pieces = (pieces.host.now, pieces.port, pieces.path.now)

-- the address has these pieces, which are of the right form
pub record IsOf (pieces : Pieces) (address : Address) : Type 0 where
  pub host : address.host.now ≡ pieces.host.now
  pub port : address.port ≡ pieces.port
  pub path : address.path.now ≡ pieces.path.now
  pub host_form : IsHost pieces.host.now
  pub path_form : IsPath pieces.path.now
