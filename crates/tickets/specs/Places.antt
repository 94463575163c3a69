-- What stands at the places of numbers that were drawn.
use Rattle.std.specs.Prelude.{ℕ, ◌==◌, Option, Some, List, [], ◌∷◌, if◌then◌else◌}
use Rattle.tickets.specs.declared.placing.Done.{Done}

-- what stands at a place once all of these were put there, the last one first: the first one that is for this place, or what stood there
abbrev pub standing : {A : Type 0} → ℕ → List (Done A) → Option A → Option A
standing place [] before = before
standing place (one ∷ done) before = if one.place == place then Some one.answer else standing place done before
