-- What some numbers come to.
use Rattle.std.specs.Prelude.{◌≡◌, ◌-◌, ◌^◌, ℕ, List, [], min, sum, MatchOption}
use Rattle.monotone_fn.specs.declared.summary.Summary.{Summary}
use Rattle.monotone_fn.specs.Shape.{IsGreatest}
use Rattle.monotone_fn.specs.Value.{IsLeast}

-- the least of the numbers, the greatest, and the sum, or the last number of 64 bits where the sum passes that
pub record Summarizes (ns : List ℕ) (summary : Summary) : Type 0 where
  pub least : MatchOption summary.least (ns ≡ []) (IsLeast ns)
  pub greatest : MatchOption summary.greatest (ns ≡ []) (IsGreatest ns)
  pub total : summary.total ≡ min (sum ns) (2 ^ 64 - 1)
