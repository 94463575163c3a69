-- What the adapters of real streams are.
use Rattle.std.specs.Prelude.{ℕ, refl}
use Rattle.std.specs.Coded.{Coded, code_by, coded×, coded_ℕ}

-- a reader or a writer of the outside, and how many of its calls failed
pub record Outside (S : Type 0) : Type 0 where
  pub stream : S
  pub faults : ℕ

-- it is stored as the pair of its fields
abbrev pub outside_code : {S : Type 0} → Coded S → Coded (Outside S)
outside_code {S} c =
    code_by (S × ℕ) (coded× c coded_ℕ) (λ a. (a.stream, a.faults)) (λ p. record { stream = p.0; faults = p.1 }) (λ _. refl)

-- what a connection of the outside tells: how many of its reads and of its writes failed
pub record Connection : Type 0 where
  pub read_faults : ℕ
  pub write_faults : ℕ
