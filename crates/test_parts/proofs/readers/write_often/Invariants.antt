use Rattle.std.proofs.Common.{◌≡◌}
use Rattle.test_parts.specs.Readers.{IsWriter}
use Rattle.test_parts.proofs.readers.write_often.Given as goal

abbrev pub invariant-loop-entry : goal.invariant-loop-entry
invariant-loop-entry g l = IsWriter l.lock l.pass × (l.pass.1.parts ≡ l.initial.pass.1.parts)
