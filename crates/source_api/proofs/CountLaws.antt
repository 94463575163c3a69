-- What a source counts.
use Rattle.std.proofs.Common.{arith}
use Rattle.source_api.specs.declared.counts.Counts.{Counts}
use Rattle.source_api.specs.Counting.{NoneFell}

-- counts that stay don't fall
pub none_fell_same : (counts : Counts) → NoneFell counts counts
none_fell_same counts = record { faults = omega arith; garbles = omega arith; moves = omega arith; rows_given = omega arith; grades_given = omega arith }

-- counts that never fall over two spans don't fall over both
pub none_fell_on : (before middle now : Counts) → NoneFell before middle → NoneFell middle now → NoneFell before now
none_fell_on before middle now h k = record { faults = omega arith; garbles = omega arith; moves = omega arith; rows_given = omega arith; grades_given = omega arith }
