-- Where a log tells that the list of its source was replaced.
use Rattle.std.specs.Prelude.{◌≡◌, ◌⊎◌, ℕ, Option, Some, List}
use Rattle.tk_io.specs.Faults.{Rose}
use Rattle.source_state.specs.declared.entry.LogEntry.{LogEntry}
use Rattle.source_state.specs.declared.entry.Settling.TheVariants.{Bad}
use Rattle.source_state.specs.declared.entry.SourceFault.TheVariants.{Moved}
use Rattle.source_state.specs.Log.{settling_in, fault_in}
use Rattle.source_api.specs.declared.counts.Counts.{Counts}
use Rattle.source_api.specs.Counting.{IsMove, MovedHasCause}
use Rattle.fetcher.specs.declared.turned.Turned.{Turned}
use Rattle.fetcher.specs.declared.turned.Turned.TheVariants as turned

-- a turn tells of a replaced list the version at hand and the one that the reply stated
abbrev pub IsMovedAs : ℕ → Option ℕ → Turned → Type 0
IsMovedAs version told (turned.Troubled why) = MovedHasCause version told why
IsMovedAs version told _ = Unit {0}

-- a log has that the list was replaced, as its row fault or as what an object settled as
abbrev pub TellsMove : List LogEntry → ℕ → ℕ → Type 0
TellsMove log had now = (fault_in log ≡ Some (Moved had now)) ⊎ ((object : ℕ) × (settling_in log object ≡ Some (Bad (Moved had now))))

-- a log never has that the list was replaced
abbrev pub TellsNoMove : List LogEntry → Type 0
TellsNoMove log = (had now : ℕ) → ¬ TellsMove log had now

-- a reply stated another version than the one at hand, and the count of moves rose
pub record IsCountedMove (version : ℕ) (told : Option ℕ) (counts now : Counts) (had other : ℕ) : Type 0 where
  pub move : IsMove version told had other
  pub counted : Rose counts.moves now.moves

-- that the list was replaced stood in a log before, or this holds of the two versions
abbrev pub MovesOnly : (ℕ → ℕ → Type 0) → List LogEntry → List LogEntry → Type 0
MovesOnly P before after = (had other : ℕ) → TellsMove after had other → TellsMove before had other ⊎ P had other

-- that the list was replaced stood in the log before, or it was a counted move
abbrev pub HasMovesOf : ℕ → Option ℕ → Counts → Counts → List LogEntry → List LogEntry → Type 0
HasMovesOf version told counts now before after = MovesOnly (λ had other. IsCountedMove version told counts now had other) before after
