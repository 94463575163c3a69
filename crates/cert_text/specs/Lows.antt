-- The least of numbers that are told one after another.
use Rattle.std.specs.Prelude.{ℕ, min, List, [], ◌∷◌, Option, Some, None}
use Rattle.monotone_fn.specs.Value.{least}

-- the least of the numbers so far, None where there are none
abbrev pub least_so_far : List ℕ → Option ℕ
least_so_far [] = None
least_so_far (n ∷ ns) = Some (least (n ∷ ns))

-- with one more number
abbrev pub lesser : Option ℕ → ℕ → ℕ
lesser None number = number
lesser (Some fewest) number = min fewest number
