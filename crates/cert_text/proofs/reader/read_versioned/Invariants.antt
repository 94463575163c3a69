use Rattle.std.proofs.Common.{◌+◌, ◌≤◌, drop, length}
use Rattle.topk_base.specs.Lines.{lines}
use Rattle.cert_text.proofs.VersionLaws.{ReadsVersions}
use Rattle.cert_text.proofs.reader.read_versioned.Given as goal

abbrev pub invariant-loop-name : goal.invariant-loop-name
invariant-loop-name l = record {
  few : l.number + length l.rest ≤ l.fn.first + length l.fn.text;
  read : ReadsVersions l.fn.wanted l.names (drop (length l.yielded) l.names) l.fn.first l.number l.versions.items (lines l.rest) (lines l.fn.text);
}
