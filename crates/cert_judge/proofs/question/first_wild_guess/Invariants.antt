use Rattle.std.proofs.Common.{◌≡◌, length}
use Rattle.cert_judge.specs.Question.{HasWalked}
use Rattle.cert_judge.proofs.question.first_wild_guess.Given as goal

abbrev pub invariant-loop-place : goal.invariant-loop-place
invariant-loop-place l = record {
  place : l.place ≡ length l.yielded;
  walked : HasWalked l.transcript.accesses l.place l.seen;
}
