-- Whom a fail of a source refuses.
use Rattle.std.specs.Prelude.{◌≡◌, ℕ, false, Some, None, List, ◌∷◌, ◌++◌, Contains}
use Rattle.ranked_list.specs.declared.need.Need.{Need}
use Rattle.source_api.specs.declared.source.FailKind.{FailKind}
use Rattle.source_state.specs.declared.look.LookFault.TheVariants.{Call}
use Rattle.source_state.specs.Looking.{waits_for}
use Rattle.query_run.specs.declared.ended.Refusal.TheVariants.{Look}
use Rattle.test_worlds.specs.declared.step.Step.{Step}
use Rattle.test_worlds.specs.declared.step.Step.TheVariants.{Fail, Turn}
use Rattle.query_run.specs.Inquiries.{needed, source_needed}
use Rattle.test_worlds.specs.Worlds.{WorldState}
use Rattle.test_worlds.specs.Steps.{TakesTurn}
use Rattle.test_worlds.specs.Runs.{Runs}

-- in this turn of a query its own want or ask comes for a need: it didn't wait for it before, and waits for it then
pub record BeginsToWait (query : ℕ) (n : Need) (before after : WorldState) : Type 0 where
  pub turn : TakesTurn query before after
  pub needs : needed turn.q ≡ n
  pub fresh : waits_for turn.q.waiting.need n ≡ false
  pub waits : turn.r.waiting.need ≡ Some n

-- these steps make this last world, and among them a query begins to wait for a need, and later a call of the source fails so
pub record FailsSince (first : WorldState) (steps : List Step) (last : WorldState) (query source : ℕ) (n : Need) (what : FailKind) : Type 0 where
  pub earlier : List Step
  pub later : List Step
  pub order : steps ≡ earlier ++ Turn query ∷ later
  pub before : WorldState
  pub after : WorldState
  pub ran : Runs first earlier before
  pub begins : BeginsToWait query n before after
  pub goes : Runs after later last
  pub fails : Contains later (Fail source what)

-- these steps make this last world, and a turn among them refuses a query because a call for this list failed so: before that turn such
-- a call of the source of its need failed, after its own want or ask
pub record IsToldOfFail (first : WorldState) (steps : List Step) (last : WorldState) (query list : ℕ) (what : FailKind) : Type 0 where
  pub front : List Step
  pub rest : List Step
  pub order : steps ≡ front ++ Turn query ∷ rest
  pub before : WorldState
  pub after : WorldState
  pub ran : Runs first front before
  pub turn : TakesTurn query before after
  pub goes : Runs after rest last
  pub unrefused : turn.q.refusal ≡ None
  pub refused : turn.r.refusal ≡ Some (Look list (Call what))
  pub since : FailsSince first front before query (source_needed turn.q) (needed turn.q) what
