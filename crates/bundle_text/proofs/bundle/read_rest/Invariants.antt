use Rattle.std.proofs.Common.{◌≡◌, ◌+◌, ◌≤◌, length}
use Rattle.topk_base.specs.Lines.{lines}
use Rattle.bundle_text.specs.Reading.{read_on}
use Rattle.bundle_text.specs.Tracking.{front_of, IsTracked}
use Rattle.bundle_text.proofs.bundle.read_rest.Given as goal

abbrev pub invariant-loop-line : goal.invariant-loop-line
invariant-loop-line l = record {
  tracked : IsTracked l.reader;
  same : read_on (front_of l.fn.reader) 2 (lines l.fn.bytes) ≡ read_on (front_of l.reader) l.number (lines l.rest);
  few : l.number + length l.rest ≤ length l.fn.bytes + 2;
}

abbrev pub decreases-loop-line : goal.decreases-loop-line
decreases-loop-line l = length l.rest
