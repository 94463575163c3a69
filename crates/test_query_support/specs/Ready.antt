-- What holds of a pool of one source between two steps.
use Rattle.std.specs.Prelude.{◌≡◌, ◌≤◌, ◌+◌, ℕ, length}
use Rattle.ranked_list.specs.declared.need.Need.{Need}
use Rattle.ranked_list.specs.declared.need.Need.TheVariants as need
use Rattle.turn_lock.specs.Known.{all_parts}
use Rattle.source_pool.specs.Passes.{hold_at, IsPassOf, IsIdleOf}
use Rattle.test_query_support.specs.declared.desk.Desk.{Desk}

-- two passes and the feeder are the pool's own, of a source with so many objects, and have all parts of it
pub record IsReady (d : Desk) : Type 0 where
  pub pass : IsPassOf d.pool d.pass
  pub other : IsPassOf d.pool d.other
  pub feeder : IsIdleOf d.pool d.feeder
  pub first : d.feeder.source ≡ 0
  pub one : length d.pool ≡ 1
  pub mine : (hold_at d.pass 0).pass.1.name.1 ≡ d.count
  pub his : (hold_at d.other 0).pass.1.name.1 ≡ d.count
  pub parts : (hold_at d.pass 0).pass.1.parts + (hold_at d.other 0).pass.1.parts + d.feeder.pass.1.parts ≡ all_parts
  pub page : (1 ≤ d.page) × (d.page ≤ 10000)
  pub ahead : d.ahead ≤ 100

-- a need may be looked for in a list of so many objects
abbrev pub MayAsk : ℕ → Need → Type 0
MayAsk count (need.Row list depth) = (1 ≤ depth) × (depth ≤ count)
MayAsk count (need.Grade list object) = Unit {0}
MayAsk count need.Done = ⊥
