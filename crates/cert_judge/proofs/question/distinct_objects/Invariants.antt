use Rattle.std.proofs.Common.{◌≡◌, ◌≢◌, ℕ, take, AllPairs}
use Rattle.cert_judge.proofs.question.distinct_objects.Given as goal

abbrev pub invariant-loop-object : goal.invariant-loop-object
invariant-loop-object l = record {
  kept : l.objects ≡ take l.object-index l.answer;
  distinct : AllPairs (λ (y : ℕ) (z : ℕ). y ≢ z) (take l.object-index l.answer);
}
