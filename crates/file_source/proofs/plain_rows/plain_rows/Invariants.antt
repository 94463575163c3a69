use Rattle.std.proofs.Common.{length}
use Rattle.csv.specs.Reading.{strip_bom}
use Rattle.file_source.specs.PlainRows.{ReadsTo}
use Rattle.file_source.proofs.plain_rows.plain_rows.Given as goal

-- the records before the rest are these rows
abbrev pub invariant-loop-rest : goal.invariant-loop-rest
invariant-loop-rest l = ReadsTo (strip_bom l.text) l.records.items l.rest

abbrev pub decreases-loop-rest : goal.decreases-loop-rest
decreases-loop-rest l = length l.rest
