use Rattle.std.proofs.Common.{◌-◌, length}
use Rattle.query_text.specs.Reached.{Reached}
use Rattle.query_text.proofs.reading.take_words.Given as goal

abbrev pub invariant-loop-at : goal.invariant-loop-at
invariant-loop-at l = Reached l.bytes l.at l.course l.draft l.fault

abbrev pub decreases-loop-at : goal.decreases-loop-at
decreases-loop-at l = length l.bytes - l.at
