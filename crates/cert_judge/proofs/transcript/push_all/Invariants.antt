use Rattle.std.proofs.Common.{◌≡◌, length}
use Rattle.access_log.specs.Log.{IsConsistent}
use Rattle.cert_judge.specs.Transcripts.{front}
use Rattle.cert_judge.proofs.transcript.push_all.Given as goal

abbrev pub invariant-loop-access : goal.invariant-loop-access
invariant-loop-access l = record {
  made : l.transcript ≡ front l.fn.transcript.lists l.fn.transcript.count l.accesses (length l.yielded);
  agrees : IsConsistent l.transcript;
}
