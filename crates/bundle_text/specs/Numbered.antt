-- The names of lists that have numbers, from 1: `l1`, `l2` and so on.
use Rattle.std.specs.Prelude.{ℕ, List, ◌∷◌, map}
use Rattle.std.specs.Fmt.{decimal}
use Rattle.std.specs.List.{range_with_len}

-- the name of the list with a number: an `l`, and the number
abbrev pub list_name : ℕ → List ℕ
list_name number = 108 ∷ decimal number

-- the names of so many lists
abbrev pub list_names : ℕ → List (List ℕ)
list_names lists = map list_name (range_with_len 1 lists)
