use Rattle.std.proofs.Common.{ℕ, List, []}
use Rattle.csv_records.specs.Records.{IsAtStart}
use Rattle.csv_records.proofs.Reading.{IsReading}
use Rattle.csv_records.proofs.read.read_all.Given as goal

-- what was taken in are the records that the reader gave
abbrev pub invariant-loop : goal.invariant-loop
invariant-loop g l = (text : List ℕ) → IsAtStart l.fn.reader text → g.T.TakesRecords.Took l.fn.into [] → IsReading (g.T.TakesRecords.Took l.into) l.reader text
