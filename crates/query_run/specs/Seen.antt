-- What the pass of a pool knows of the sources, as states.
use Rattle.std.specs.Prelude.{List, map}
use Rattle.source_state.specs.State.{State}
use Rattle.source_pool.specs.declared.hold.Hold.{Hold}
use Rattle.source_pool.specs.Seen.{state_seen}

-- the states of all sources, by their numbers, as the pass saw each last
abbrev pub states_seen : List Hold → List State
states_seen holds = map (λ hold. state_seen hold.pass.1) holds
