-- The line of sums.
use Rattle.std.specs.Prelude.{ℕ, List, [], ◌∷◌, ◌++◌, codes}
use Rattle.std.specs.List.{concat}
use Rattle.std.specs.Fmt.{decimal}
use Rattle.bulk_run.specs.declared.sums.BulkSums.{BulkSums}

-- a figure and what stands before it
abbrev pub figure : List ℕ → ℕ → List ℕ
figure before number = before ++ decimal number

-- `bulk queries QUERIES answered ANSWERED depth DEPTH sorted SORTED random RANDOM values VALUES`, and the end of the line
abbrev pub sums_text : BulkSums → List ℕ
sums_text sums = concat (figure (codes "bulk queries ") sums.queries ∷ figure (codes " answered ") sums.answered ∷ figure (codes " depth ") sums.depth
    ∷ figure (codes " sorted ") sums.sorted ∷ figure (codes " random ") sums.random ∷ figure (codes " values ") sums.values ∷ codes "\n" ∷ [])

-- the end of it, from the sorted accesses on
abbrev pub accesses_text : BulkSums → List ℕ
accesses_text sums = concat (figure (codes " sorted ") sums.sorted ∷ figure (codes " random ") sums.random ∷ figure (codes " values ") sums.values
    ∷ codes "\n" ∷ [])
