use Rattle.std.proofs.Common.{◌≡◌, ◌+◌, All, vec_len}
use Rattle.turn_lock.specs.Known.{all_parts}
use Rattle.test_parts.specs.Readers.{IsReady, IsWriter}
use Rattle.test_parts.proofs.readers.split_readers.Given as goal

abbrev pub invariant-loop-made : goal.invariant-loop-made
invariant-loop-made l =
    IsWriter l.lock l.pass
    × (l.pass.1.parts + l.made ≡ all_parts)
    × (vec_len l.readers ≡ l.made)
    × All (IsReady l.lock) l.readers.items
