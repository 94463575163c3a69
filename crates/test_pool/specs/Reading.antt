-- What holds of a reader of a pool of one source.
use Rattle.std.specs.Prelude.{◌≡◌, ℕ, List, length}
use Rattle.atomic_table.specs.Seated.{TableId}
use Rattle.source_pool.specs.declared.hold.Hold.{Hold}
use Rattle.source_pool.specs.Passes.{hold_at, IsPassOf}

-- the pass is the pool's own, and the one source has so many objects
pub record IsReader (pool : List TableId) (count : ℕ) (holds : List Hold) : Type 0 where
  pub own : IsPassOf pool holds
  pub one : length pool ≡ 1
  pub name : (hold_at holds 0).pass.1.name.1 ≡ count
