-- Worlds after a list of steps.
use Rattle.std.specs.Prelude.{◌≡◌, List, [], ◌∷◌}
use Rattle.ranked_list.specs.declared.row.Row.{Row}
use Rattle.test_worlds.specs.declared.step.Step.{Step}
use Rattle.test_worlds.specs.Worlds.{WorldState}
use Rattle.test_worlds.specs.Steps.{MayStep, Steps}
use Rattle.test_worlds.specs.Honest.{IsHonest}

-- lawful steps, one after another, make this of a world
abbrev pub Runs : WorldState → List Step → WorldState → Type 0
Runs w [] last = last ≡ w
Runs w (step ∷ steps) last = (next : WorldState) × MayStep w step × Steps step w next × Runs next steps last

-- lawful steps, each honest for the lists of the sources, make this of a world
abbrev pub RunsHonestly : List (List Row) → WorldState → List Step → WorldState → Type 0
RunsHonestly lists w [] last = last ≡ w
RunsHonestly lists w (step ∷ steps) last = (next : WorldState) × MayStep w step × IsHonest lists w step × Steps step w next × RunsHonestly lists next steps last
