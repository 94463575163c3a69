use Rattle.std.proofs.Common.{◌≡◌, Some, map, take}
use Rattle.file_source.proofs.file_source.rows_of.Given as goal

-- the rows are the records so far
abbrev pub invariant-loop-record : goal.invariant-loop-record
invariant-loop-record l = map (λ row. Some row) l.rows.items ≡ take l.record-index l.records
