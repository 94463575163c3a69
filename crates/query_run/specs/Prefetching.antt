-- What a query asks of its sources ahead, list by list.
use Rattle.std.specs.Prelude.{◌≡◌, ◌≢◌, ◌<◌, ℕ, Bool, MatchBool, List}
use Rattle.ranked_list.specs.declared.need.Need.{Need}
use Rattle.source_pool.specs.declared.hold.Hold.{Hold}
use Rattle.source_pool.specs.Passes.{hold_at, OthersStay}
use Rattle.source_pool.specs.Looks.{AsksAhead}
use Rattle.query_core.specs.Machines.{IsLeftFor}
use Rattle.query_run.specs.declared.running_query.RunningQuery.{RunningQuery}
use Rattle.query_run.specs.Inquiries.{source_of, is_done}
use Rattle.query_run.specs.Looking.{LooksAhead}

-- a need is asked for at a source, in one turn, if nothing is there yet; the other sources stay
pub record IsForeseen (need : Need) (source : ℕ) (before after : List Hold) : Type 0 where
  pub missing : Bool
  pub asks : AsksAhead need (hold_at before source) (hold_at after source) missing
  pub others : OthersStay source before after

-- what is left of a list for a query is asked for at the list's source; where nothing is left nothing is done
pub record ForeseesLeft (q : RunningQuery) (list : ℕ) (before after : List Hold) : Type 0 where
  pub need : Need
  pub left : IsLeftFor q.machine list need
  pub asked : MatchBool (is_done need) (after ≡ before) (IsForeseen need (source_of q list) before after)

-- the same where the source is said to be far, and nothing where it isn't
pub record ForeseesIfFar (says : ℕ → Bool → Type 0) (q : RunningQuery) (list : ℕ) (before after : List Hold) : Type 0 where
  pub far : Bool
  pub said : says (source_of q list) far
  pub asked : MatchBool far (ForeseesLeft q list before after) (after ≡ before)

-- among looks ahead there is one of a list, by the pass as it was then
pub record HasForeseenList (says : ℕ → Bool → Type 0) (q : RunningQuery) (list : ℕ) (before after : List Hold) : Type 0 where
  pub first : List Hold
  pub last : List Hold
  pub earlier : LooksAhead before first q
  pub asks : ForeseesIfFar says q list first last
  pub later : LooksAhead last after q

-- there is one of each list below a number, but the needed one
pub record HasPrefetchedBelow (says : ℕ → Bool → Type 0) (q : RunningQuery) (lists needed : ℕ) (before after : List Hold) : Type 0 where
  pub each : (list : ℕ) → list < lists → list ≢ needed → HasForeseenList says q list before after
