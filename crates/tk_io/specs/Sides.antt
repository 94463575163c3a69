-- What a stream of one direction is besides.
use Rattle.std.specs.Prelude.{ℕ, List, Option, None}

-- the other direction of a stream that is both read and written: its bytes, where they are told, its count of faults, and what each read of it gave, where
-- that is told
pub record Side : Type 0 where
  pub bytes : Option (List ℕ)
  pub faults : ℕ
  pub pieces : Option (List (List ℕ))

-- the other direction of a stream that has one alone
abbrev pub no_side : Side
no_side = record { bytes = None; faults = 0; pieces = None }
