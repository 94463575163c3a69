-- What holds of the passes of a lock between their turns.
use Rattle.std.specs.Prelude.{◌≡◌, ℕ, true, false, None}
use Rattle.atomic_table.specs.Seated.{TableId}
use Rattle.turn_lock.specs.declared.known.Known.{Known}
use Rattle.test_parts.specs.declared.journal.Reader.{Reader}

-- the pass of a reader of this lock, with one part and no turn
pub record IsReader (lock : TableId) (pass : TableId × Known ℕ) : Type 0 where
  pub own : pass.0 ≡ lock
  pub rests : pass.1.held ≡ None
  pub reads : pass.1.writer ≡ false
  pub part : pass.1.parts ≡ 1

-- a reader of this lock, with one part and no turn
pub record IsReady (lock : TableId) (reader : Reader) : Type 0 where
  pub own : reader.pass.0 ≡ lock
  pub rests : reader.pass.1.held ≡ None
  pub part : reader.pass.1.parts ≡ 1

-- the writer of this lock, without a turn
pub record IsWriter (lock : TableId) (pass : TableId × Known ℕ) : Type 0 where
  pub own : pass.0 ≡ lock
  pub rests : pass.1.held ≡ None
  pub writer : pass.1.writer ≡ true
