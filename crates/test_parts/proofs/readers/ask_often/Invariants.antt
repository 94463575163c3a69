use Rattle.test_parts.specs.Readers.{IsReady}
use Rattle.test_parts.proofs.readers.ask_often.Given as goal

abbrev pub invariant-loop-object : goal.invariant-loop-object
invariant-loop-object g l = IsReady l.lock l.reader
