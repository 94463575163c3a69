use Rattle.std.proofs.Common.{◌≡◌, ◌+◌, All, vec_len}
use Rattle.turn_lock.specs.Known.{all_parts}
use Rattle.test_parts.specs.Readers.{IsReady, IsWriter}
use Rattle.test_parts.proofs.readers.join_readers.Given as goal

abbrev pub invariant-loop-reader : goal.invariant-loop-reader
invariant-loop-reader l = IsWriter l.lock l.pass × (l.pass.1.parts + vec_len l.readers ≡ all_parts) × All (IsReady l.lock) l.readers.items

abbrev pub decreases-loop-reader : goal.decreases-loop-reader
decreases-loop-reader l = vec_len l.readers
