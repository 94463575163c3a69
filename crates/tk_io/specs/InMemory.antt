-- What the streams in memory are, and what one call makes of them.
use Rattle.std.specs.Prelude.{ℕ, List, ◌++◌, drop}
use Rattle.tk_io.specs.Faults.{counted}

-- a stream to read: the bytes that are left, the most of one call, the numbers of the calls that fail,
-- the calls and the faults so far
pub record Incoming : Type 0 where
  pub left : List ℕ
  pub piece : ℕ
  pub fails : List ℕ
  pub calls : ℕ
  pub faults : ℕ

-- a stream to write to: the bytes that it holds, the room for bytes in all, the numbers of the calls
-- that fail, the calls and the faults so far
pub record Outgoing : Type 0 where
  pub held : List ℕ
  pub room : ℕ
  pub fails : List ℕ
  pub calls : ℕ
  pub faults : ℕ

-- the number of the next call, after so many calls
abbrev pub next_call : ℕ → ℕ
next_call calls = counted calls

-- after a read that failed
abbrev pub failed_read : Incoming → Incoming
failed_read m = record m { calls = counted m.calls; faults = counted m.faults }

-- after a read that gave so many bytes
abbrev pub read_of : ℕ → Incoming → Incoming
read_of count m = record m { left = drop count m.left; calls = counted m.calls }

-- after a write that failed
abbrev pub failed_write : Outgoing → Outgoing
failed_write m = record m { calls = counted m.calls; faults = counted m.faults }

-- after a write that took these bytes
abbrev pub write_of : List ℕ → Outgoing → Outgoing
write_of bytes m = record m { held = m.held ++ bytes; calls = counted m.calls }
