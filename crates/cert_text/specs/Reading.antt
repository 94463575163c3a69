-- How lines spell a certificate, and where lines stop being the front of one.
use Rattle.std.specs.Prelude.{◌≡◌, ◌≤◌, ◌+◌, ◌-◌, ℕ, List, ◌++◌, length, take}
use Rattle.std.specs.declared.result.Result.{Result}
use Rattle.std.specs.declared.result.Result.TheVariants.{Ok, Err}
use Rattle.cert_text.specs.declared.certificate.Certificate.{Certificate}
use Rattle.cert_text.specs.declared.fault.CertFault.{CertFault}
use Rattle.cert_text.specs.declared.fault.CertFault.TheVariants.{BadLine, Memory}
use Rattle.cert_text.specs.Certificate.{IsCertificate, certificate_lines}

-- the lines spell this certificate
pub record Spells (ls : List (List ℕ)) (c : Certificate) : Type 0 where
  pub certificate : IsCertificate c
  pub spelled : ls ≡ certificate_lines c

-- the lines are the front of the lines of some certificate
abbrev pub BeginsCertificate : List (List ℕ) → Type 0
BeginsCertificate ls = (rest : List (List ℕ)) × (c : Certificate) × Spells (ls ++ rest) c

-- the line, counted from 1, is the first such that no certificate's lines begin with the lines up to and including it,
-- or the number of lines plus one where all of them are the front of some certificate's
pub record IsFirstFault (ls : List (List ℕ)) (line : ℕ) : Type 0 where
  pub counted : 1 ≤ line
  pub within : line ≤ length ls + 1
  pub begins : BeginsCertificate (take (line - 1) ls)
  pub ends : line ≤ length ls → BeginsCertificate (take line ls) → ⊥

-- the reading of lines that spell this certificate: it is what was read, or memory was refused
abbrev pub IsReadAs : Certificate → Result Certificate CertFault → Type 0
IsReadAs c (Ok certificate) = certificate ≡ c
IsReadAs c (Err (BadLine line)) = ⊥
IsReadAs c (Err Memory) = Unit {0}

-- why no certificate was read from the lines
abbrev pub IsCause : List (List ℕ) → CertFault → Type 0
IsCause ls (BadLine line) = IsFirstFault ls line
IsCause ls Memory = Unit {0}
