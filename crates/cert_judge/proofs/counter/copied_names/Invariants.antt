use Rattle.std.proofs.Common.{◌≡◌, length, take}
use Rattle.query_text.specs.Bytes.{bytes_of}
use Rattle.cert_judge.proofs.counter.copied_names.Given as goal

abbrev pub invariant-loop-name : goal.invariant-loop-name
invariant-loop-name l = bytes_of l.copied.items ≡ take (length l.yielded) l.names
