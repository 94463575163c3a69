-- What a query needs of the pass of a pool, and what it leaves of it.
use Rattle.std.specs.Prelude.{◌≡◌, ◌<◌, ℕ, None, List, All, Contains, length}
use Rattle.turn_lock.specs.Known.{Follows}
use Rattle.source_pool.specs.declared.hold.Hold.{Hold}
use Rattle.source_pool.specs.Passes.{hold_at}
use Rattle.source_pool.specs.Looks.{IsWithin}
use Rattle.query_core.specs.declared.ready.Ready.{Ready}

-- the pass waits for nothing
pub record WaitsForNothing (holds : List Hold) : Type 0 where
  pub rests : (source : ℕ) → (hold_at holds source).waiting.need ≡ None

-- each list of the query has a source in the pool, which has as many objects as the query counts
abbrev pub IsSourceIn : List Hold → ℕ → ℕ → Type 0
IsSourceIn holds count source = (source < length holds) × ((hold_at holds source).pass.1.name.1 ≡ count)

pub record HasSourcesIn (holds : List Hold) (ready : Ready) : Type 0 where
  pub each : All (IsSourceIn holds ready.count) ready.sources.items

-- what looks leave of a source's pass: of the same source it knows at least as much, it has the same parts, and no more fails are shown
-- through it than it knows of, if that was so before
pub record KnowsMore (before after : Hold) : Type 0 where
  pub follows : Follows before.pass.1 after.pass.1
  pub name : after.pass.1.name ≡ before.pass.1.name
  pub parts : after.pass.1.parts ≡ before.pass.1.parts
  pub writer : after.pass.1.writer ≡ before.pass.1.writer
  pub within : IsWithin before → IsWithin after

-- a pass later on: of each source it knows at least as much
pub record KnowsAll (before after : List Hold) : Type 0 where
  pub size : length after ≡ length before
  pub each : (source : ℕ) → KnowsMore (hold_at before source) (hold_at after source)

-- what a query of these sources leaves of a pool's pass: it knows at least as much of each source, and what it holds of others stays
pub record Advances (sources : List ℕ) (before after : List Hold) : Type 0 where
  pub size : length after ≡ length before
  pub knows : (source : ℕ) → KnowsMore (hold_at before source) (hold_at after source)
  pub others : (source : ℕ) → ¬ Contains sources source → hold_at after source ≡ hold_at before source
