-- Objects, each once, in the order in which they were added.
use Rattle.std.specs.Prelude.{◌==◌, ℕ, Bool, List, [], ◌∷◌, ◌++◌, if◌then◌else◌}
use Rattle.std.specs.List.{list_any}

-- whether the object is there
abbrev pub has : ℕ → List ℕ → Bool
has object objects = list_any (λ other. other == object) objects

-- the objects with one more, unless it is there
abbrev pub with_object : ℕ → List ℕ → List ℕ
with_object object objects = if has object objects then objects else objects ++ object ∷ []
