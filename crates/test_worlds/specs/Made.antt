-- Worlds for queries that are ready.
use Rattle.std.specs.Prelude.{◌≡◌, ℕ, List}
use Rattle.std.specs.List.{AllZip}
use Rattle.query_core.specs.declared.ready.Ready.{Ready}
use Rattle.test_worlds.specs.Worlds.{WorldState}
use Rattle.query_run.specs.Made.{opened_from, IsOf, IsFresh}

-- a world's queries are these, in their order
abbrev pub AreOf : List Ready → WorldState → Type 0
AreOf readies w = AllZip IsOf readies w.queries

-- a world before any step
pub record IsMade (counts : List ℕ) (readies : List Ready) (w : WorldState) : Type 0 where
  pub states : w.states ≡ opened_from 0 counts
  pub queries : AllZip IsFresh readies w.queries
