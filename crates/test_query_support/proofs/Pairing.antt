-- A pool of two sources with its pass and its two feeders.
use Rattle.std.proofs.Common.{◌≡◌, ◌<◌, ◌∷◌, [], ℕ, List, length, sym, subst, ◌∙◌, arith}
use Rattle.atomic_table.specs.Seated.{TableId}
use Rattle.source_pool.specs.Passes.{Feed, lock_at, feed_at, IsIdleOf, AreFeedersOf}
use Rattle.source_pool.specs.Sharing.{IsOpened}
use Rattle.test_query_support.specs.declared.pair.Pair.{Pair}
use Rattle.test_query_support.specs.Pairs.{AreTheTwo, IsPair}

pub is_pair : (count : ℕ) (pair : Pair) (feeds : List Feed) (both : Feed × Feed) → IsOpened (count ∷ count ∷ []) pair.pool pair.pass feeds
    → AreTheTwo feeds both → pair.first ≡ both.0 → pair.second ≡ both.1 → IsPair count pair
is_pair count pair feeds both opened the one other = record { feeds = feeds; opened = opened; first = one ∙ the.0; second = other ∙ the.1 }

-- no feeder of a pool that was just opened has a turn
one_idle : (pool : List TableId) (feeds : List Feed) (source : ℕ) (feed : Feed) → AreFeedersOf pool feeds → source < length pool → feed ≡ feed_at feeds source
    → IsIdleOf pool feed
one_idle pool feeds source feed are within its =
    let free = are.each source within in
    let is = are.sources source within in
    subst (IsIdleOf pool) (sym its)
    (record {
      of = record {
        source = subst (λ s. s < length pool) (sym is) within;
        own = subst (λ s. (feed_at feeds source).pass.0 ≡ lock_at pool s) (sym is) free.own;
      };
      rests = free.rests;
    })

pub first_idle : (count : ℕ) (pair : Pair) → IsPair count pair → IsIdleOf pair.pool pair.first
first_idle count pair is = one_idle pair.pool is.feeds 0 pair.first is.opened.feeders (let size = is.opened.size in omega (arith, size)) is.first

pub second_idle : (count : ℕ) (pair : Pair) → IsPair count pair → IsIdleOf pair.pool pair.second
second_idle count pair is = one_idle pair.pool is.feeds 1 pair.second is.opened.feeders (let size = is.opened.size in omega (arith, size)) is.second
