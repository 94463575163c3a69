use Rattle.std.proofs.Common.{length, All}
use Rattle.line_outcome.specs.LineOutcomes.{CanBeWritten}
use Rattle.catalog_run.proofs.LineTexts.{PutsFront}
use Rattle.catalog_run.proofs.texts.put_outcomes.Given as goal

-- the texts of the outcomes before the rest were put
abbrev pub invariant-loop-rest : goal.invariant-loop-rest
invariant-loop-rest g l = record {
  front : PutsFront (g.P.Put.at l.fn.out) (g.P.Put.at l.out) l.outcomes l.rest l.number;
  written : All CanBeWritten l.rest;
}

abbrev pub decreases-loop-rest : goal.decreases-loop-rest
decreases-loop-rest g l = length l.rest
