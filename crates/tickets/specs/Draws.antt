-- What contracts see of tickets, and what a pass has of them.
use Rattle.std.specs.Prelude.{ℕ, ◌+◌, ◌==◌, List, [], ◌∷◌, ◌++◌, if◌then◌else◌}
use Rattle.tickets.specs.declared.draws.Draws.{Draws}

-- all parts
abbrev pub all_parts : ℕ
all_parts = 1099511627776

-- how often a number was drawn
abbrev pub times : ℕ → List ℕ → ℕ
times number [] = 0
times number (x ∷ xs) = (if x == number then 1 else 0) + times number xs

-- the pass that opens the tickets has all parts, and drew nothing
abbrev pub opened : Draws
opened = record { parts = all_parts; drawn = [] }

-- the pass with one number more
abbrev pub drawing : ℕ → Draws → Draws
drawing number has = record has { drawn = has.drawn ++ number ∷ [] }

-- the pass with so many parts, and one of so many parts that drew nothing
abbrev pub with_parts : ℕ → Draws → Draws
with_parts parts has = record has { parts = parts }

abbrev pub fresh : ℕ → Draws
fresh parts = record { parts = parts; drawn = [] }

-- the first pass with the parts and the numbers of both
abbrev pub joined : Draws → Draws → Draws
joined first second = record { parts = first.parts + second.parts; drawn = first.drawn ++ second.drawn }
