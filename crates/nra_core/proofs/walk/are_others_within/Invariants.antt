use Rattle.std.proofs.Common.{◌≡◌, is_some}
use Rattle.std.specs.Prelude.{count_by}
use Rattle.monotone_fn.specs.Value.{value}
use Rattle.nra_core.proofs.Walked.{Walks}
use Rattle.nra_core.proofs.walk.are_others_within.Given as goal

abbrev pub invariant-loop-candidate : goal.invariant-loop-candidate
invariant-loop-candidate l = record {
  walks : Walks (value l.expr) l.fn.first.most l.transcript.lists l.transcript.accesses l.bound l.first l.candidates l.from;
  room : l.first.room ≡ l.fn.first.room;
}

abbrev pub decreases-loop-candidate : goal.decreases-loop-candidate
decreases-loop-candidate l = count_by is_some l.candidates
