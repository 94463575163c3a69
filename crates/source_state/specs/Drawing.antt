-- What the logs of sources tell of their lists.
use Rattle.std.specs.Prelude.{ℕ, List, ◌++◌, map}
use Rattle.topk_theory.specs.Transcript.{Told}
use Rattle.source_state.specs.declared.entry.LogEntry.{LogEntry}
use Rattle.source_state.specs.Log.{rows_in, graded_in}
use Rattle.source_state.specs.State.{IsSoundLog}

-- of each list its rows, and as known grades those of its rows and the good ones that were asked for
abbrev pub told_by : List (List LogEntry) → Told
told_by logs = record { rows = map rows_in logs; known = map (λ log. rows_in log ++ graded_in log) logs }

-- a log is sound for a list of some size and some asks
pub record IsSomeSound (log : List LogEntry) : Type 0 where
  pub count : ℕ
  pub asks : List ℕ
  pub sound : IsSoundLog count asks log
