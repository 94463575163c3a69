-- What holds of a pool of two sources when it was opened.
use Rattle.std.specs.Prelude.{◌≡◌, ◌∷◌, [], ℕ, List}
use Rattle.source_pool.specs.Passes.{Feed, feed_at}
use Rattle.source_pool.specs.Sharing.{IsOpened}
use Rattle.test_query_support.specs.declared.pair.Pair.{Pair}

-- the feeders of two sources
abbrev pub AreTheTwo : List Feed → Feed × Feed → Type 0
AreTheTwo feeds both = (both.0 ≡ feed_at feeds 0) × (both.1 ≡ feed_at feeds 1)

-- the pass and the feeders are those that the pool was opened with
pub record IsPair (count : ℕ) (pair : Pair) : Type 0 where
  pub feeds : List Feed
  pub opened : IsOpened (count ∷ count ∷ []) pair.pool pair.pass feeds
  pub first : pair.first ≡ feed_at feeds 0
  pub second : pair.second ≡ feed_at feeds 1
