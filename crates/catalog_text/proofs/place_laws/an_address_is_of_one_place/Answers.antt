use Rattle.std.proofs.Common.{ℕ, List, ap}
use Rattle.catalog_text.proofs.AddressLaws.{same_address}
use Rattle.catalog_text.proofs.place_laws.an_address_is_of_one_place.Goals as goal

pub returns-clause-host : goal.returns-clause-host
returns-clause-host c text host other port number path tail a b = ap (λ (p : List ℕ × ℕ × List ℕ). p.0) (same_address text host other port number path tail a b)

pub returns-clause-port : goal.returns-clause-port
returns-clause-port c text host other port number path tail a b = ap (λ (p : List ℕ × ℕ × List ℕ). p.1) (same_address text host other port number path tail a b)

pub returns-clause-path : goal.returns-clause-path
returns-clause-path c text host other port number path tail a b = ap (λ (p : List ℕ × ℕ × List ℕ). p.2) (same_address text host other port number path tail a b)
