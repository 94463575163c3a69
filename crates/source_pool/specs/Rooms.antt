-- The vectors of a pool that is being opened.
use Rattle.std.specs.Prelude.{◌≡◌, ◌≤◌, ◌<◌, ℕ, [], vec_len, vec_capacity}
use Rattle.source_pool.specs.declared.opening.OpenedLocks.{OpenedLocks}

-- there is room for so many sources
pub record HasRoom (room : ℕ) (opened : OpenedLocks) : Type 0 where
  pub locks : room ≤ vec_capacity opened.locks
  pub holds : room ≤ vec_capacity opened.holds
  pub feeders : room ≤ vec_capacity opened.feeders

-- there is room for one more source
pub record HasPlace (opened : OpenedLocks) : Type 0 where
  pub locks : vec_len opened.locks < vec_capacity opened.locks
  pub holds : vec_len opened.holds < vec_capacity opened.holds
  pub feeders : vec_len opened.feeders < vec_capacity opened.feeders

-- there are no sources yet
pub record IsEmpty (opened : OpenedLocks) : Type 0 where
  pub locks : opened.locks.items ≡ []
  pub holds : opened.holds.items ≡ []
  pub feeders : opened.feeders.items ≡ []
